-- The encoding that some bytes show, and what shows it. Byte order marks go first, as in "BOM
-- sniff" (Encoding Standard 6) and in the HTML Standard's "encoding sniffing algorithm"
-- (13.2.3.2).
use Rattle.std.specs.Prelude.{◌≡◌, ℕ, List, Option, Some, None, option_map, IsNone, IfSome}
use Rattle.std.specs.Option.{option_or}
use Rattle.enc_utf8.specs.Validity.{IsWellFormedUtf8, AreAscii}
use Rattle.enc_names.specs.declared.encoding_id.EncodingId.TheVariants.{Utf8}
use Rattle.enc_stream.specs.declared.encoding.Encoding.{Encoding}
use Rattle.enc_stream.specs.Bom.{bom_of}
use Rattle.enc_sniff.specs.declared.guess.Evidence.{Evidence}
use Rattle.enc_sniff.specs.declared.guess.Evidence.TheVariants as evidence
use Rattle.enc_sniff.specs.declared.guess.Guess.{Guess}
use Rattle.enc_sniff.specs.Xml.{xml_encoding}
use Rattle.enc_sniff.specs.Html.{html_encoding}

-- an encoding by some evidence
abbrev pub guess_by : Evidence → Encoding → Guess
guess_by shown e = record { encoding = Some e; evidence = shown }

-- UTF-8 by some evidence
abbrev pub utf_8_by : Evidence → Guess
utf_8_by shown = guess_by shown (record { id = Utf8 })

-- What the bytes declare: by a byte order mark, as the head of an XML document, or as the start of
-- a page of HTML, in this order.
abbrev pub declared_guess : List ℕ → Option Guess
declared_guess bytes =
    option_or (option_map (λ mark. guess_by evidence.Bom mark.0) (bom_of bytes))
    (option_or (option_map (guess_by evidence.XmlDeclaration) (xml_encoding bytes))
    (option_map (guess_by evidence.Meta) (html_encoding bytes)))

-- The guess is what the bytes declare. Bytes that declare nothing are UTF-8 if they are
-- well-formed, with the evidence of ASCII if they are ASCII, and show nothing otherwise.
pub record IsGuess (bytes : List ℕ) (guess : Guess) : Type 0 where
  pub declared : IfSome (declared_guess bytes) (λ found. guess ≡ found)
  pub ascii : IsNone (declared_guess bytes) → AreAscii bytes → guess ≡ utf_8_by evidence.Ascii
  pub well_formed :
      IsNone (declared_guess bytes) → IsWellFormedUtf8 bytes → ¬ (AreAscii bytes)
      → guess ≡ utf_8_by evidence.Utf8
  pub other :
      IsNone (declared_guess bytes) → ¬ (IsWellFormedUtf8 bytes)
      → guess ≡ record { encoding = None; evidence = evidence.Nothing }
