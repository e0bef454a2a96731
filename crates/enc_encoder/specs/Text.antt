-- The bytes of a whole text, and decimal character references (Encoding Standard 4.1, error mode
-- "html").
use Rattle.std.specs.Prelude.{◌≡◌, ℕ, Bool, true, Option, Some, None, List, [], ◌∷◌, ◌++◌, if◌then◌else◌, decimal}
use Rattle.enc_encoder.specs.declared.character_set.CharacterSet.{CharacterSet}
use Rattle.enc_encoder.specs.declared.character_set.CharacterSet.TheVariants.{Ascii, Roman, Jis0208}
use Rattle.enc_encoder.specs.EncoderRule.{EncoderRule, RawEncoderState}
use Rattle.enc_input.specs.declared.encoder_result.EncoderResult.{EncoderResult}
use Rattle.enc_input.specs.declared.encoder_result.EncoderResult.TheVariants.{InputEmpty, OutputFull, Unmappable}

-- the escape sequence that designates a set (Encoding Standard 12.2.2)
abbrev pub escape_sequence : CharacterSet → List ℕ
escape_sequence Ascii = 0x1B ∷ 0x28 ∷ 0x42 ∷ []
escape_sequence Roman = 0x1B ∷ 0x28 ∷ 0x4A ∷ []
escape_sequence Jis0208 = 0x1B ∷ 0x24 ∷ 0x42 ∷ []

-- the escape sequence before a character, if this character set is designated
abbrev pub escape_before : EncoderRule → CharacterSet → ℕ → List ℕ
escape_before e s c = if e.has s c then [] else escape_sequence (e.designated c)

-- the escape sequence at the end of a text
abbrev pub escape_at_end : CharacterSet → List ℕ
escape_at_end Ascii = []
escape_at_end Roman = escape_sequence Ascii
escape_at_end Jis0208 = escape_sequence Ascii

-- the bytes of a mappable character, or none
abbrev pub list_or_empty : Option (List ℕ) → List ℕ
list_or_empty None = []
list_or_empty (Some b) = b

-- the bytes of a text of mappable characters, after another one that begins in this character set
abbrev pub bytes_after_text : EncoderRule → CharacterSet → List ℕ → List ℕ → List ℕ
bytes_after_text e s u [] = escape_at_end (e.set_after s u)
bytes_after_text e s u (c ∷ t) =
    escape_before e (e.set_after s u) c
    ++ (list_or_empty (e.bytes c) ++ bytes_after_text e s (u ++ c ∷ []) t)

-- The bytes of a text of mappable characters. Before a character stands an escape sequence, if the
-- character set after the text before it lacks it. At the end stands the escape sequence to ASCII,
-- if another set is designated.
abbrev pub bytes_of_text : EncoderRule → CharacterSet → List ℕ → List ℕ
bytes_of_text e s t = bytes_after_text e s [] t

-- the decimal character reference `&#..;` (Encoding Standard 4.1, error mode "html")
abbrev pub reference : ℕ → List ℕ
reference c = 0x26 ∷ 0x23 ∷ (decimal c ++ 0x3B ∷ [])

-- a character, or its reference if it is unmappable
abbrev pub with_reference : EncoderRule → ℕ → Option (List ℕ) → List ℕ
with_reference e c None = reference (e.reported c)
with_reference e c (Some b) = c ∷ []

-- text with references: a reference for each unmappable character
abbrev pub with_references : EncoderRule → List ℕ → List ℕ
with_references e [] = []
with_references e (c ∷ t) = with_reference e c (e.bytes c) ++ with_references e t

-- the reference that a caller writes after a call
abbrev pub reference_after : EncoderResult → List ℕ
reference_after InputEmpty = []
reference_after OutputFull = []
reference_after (Unmappable c) = reference c

-- Whatever follows the characters of a call, the bytes of the whole text are what the call wrote,
-- the reference to the character that it reported, and the bytes of the text left.
abbrev pub KeepsText : RawEncoderState → RawEncoderState → List ℕ → List ℕ → Bool → EncoderResult
    → List ℕ → Type 0
KeepsText old new src rest last result wrote = (z : List ℕ) → (last ≡ true → z ≡ [])
    → bytes_of_text old.rule old.set (with_references old.rule (src ++ z))
    ≡ wrote ++ (reference_after result
    ++ bytes_of_text new.rule new.set (with_references new.rule (rest ++ z)))
