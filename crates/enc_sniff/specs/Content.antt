-- The encoding in an attribute `content` (HTML Standard, "extracting a character encoding from a
-- `meta` element").
use Rattle.std.specs.Prelude.{ℕ, if◌then◌else◌, ◌==◌, List, [], ◌∷◌, drop, Option, Some, None}
use Rattle.std.specs.Prelude.{option_map, option_and_then, codes}
use Rattle.std.specs.List.{take_while}
use Rattle.std.specs.Char.{is_ascii_whitespace}
use Rattle.enc_stream.specs.declared.encoding.Encoding.{Encoding}
use Rattle.enc_stream.specs.Labels.{encoding_of_label}
use Rattle.enc_sniff.specs.Positions.{past, up_to, is_quote, begins_in_either_case}
use Rattle.enc_sniff.specs.Attributes.{is_word_byte}

-- step 6: what stands between two quotation marks, or up to ASCII whitespace, `;` or the end
abbrev pub label_from : List ℕ → Option (List ℕ)
label_from [] = None
label_from (b ∷ s) =
    if is_quote b then option_map (λ found. found.0) (up_to b s)
    else Some (take_while (is_word_byte 0x3B) (b ∷ s))

-- steps 4 and 5: the position after `=` and ASCII whitespace
abbrev pub past_sign : List ℕ → Option (List ℕ)
past_sign [] = None
past_sign (b ∷ s) = if b == 0x3D then Some (past is_ascii_whitespace s) else None

-- steps 2 to 5: the position after `charset`, `=` and ASCII whitespace around it, if they are next
abbrev pub past_charset : List ℕ → Option (List ℕ)
past_charset s =
    if begins_in_either_case s (codes "charset")
    then past_sign (past is_ascii_whitespace (drop 7 s))
    else None

-- what stands there, or else this
abbrev pub label_or : Option (List ℕ) → Option (List ℕ) → Option (List ℕ)
label_or None other = other
label_or (Some s) other = label_from s

-- the label after the first `charset` that `=` follows (steps 1 to 6)
abbrev pub content_label : List ℕ → Option (List ℕ)
content_label [] = None
content_label (b ∷ s) = label_or (past_charset (b ∷ s)) (content_label s)

-- "Extract a character encoding from a `meta` element"
abbrev pub content_encoding : List ℕ → Option Encoding
content_encoding content = option_and_then encoding_of_label (content_label content)
