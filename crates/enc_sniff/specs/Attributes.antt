-- An attribute of a tag (HTML Standard 13.2.3.2, "get an attribute").
--
-- Letters stand as in the page. The standard makes A to Z lower case here; in these definitions a
-- name or a value is compared in either case, and "get an encoding" takes labels so.
use Rattle.std.specs.Prelude.{ℕ, Bool, not, ◌||◌, if◌then◌else◌, ◌==◌, List, [], ◌∷◌, Option, Some}
use Rattle.std.specs.Prelude.{None, option_map}
use Rattle.std.specs.List.{take_while}
use Rattle.std.specs.Char.{is_ascii_whitespace}
use Rattle.enc_sniff.specs.Positions.{past, up_to, is_quote}

pub record Attribute : Type 0 where
  pub name : List ℕ
  pub value : List ℕ

-- ASCII whitespace or `/`
abbrev pub is_separator : ℕ → Bool
is_separator b = is_ascii_whitespace b || b == 0x2F

-- a byte that does not end a name: neither ASCII whitespace, `/`, `>` nor `=`
abbrev pub is_name_byte : ℕ → Bool
is_name_byte b = not (((is_ascii_whitespace b || b == 0x2F) || b == 0x3E) || b == 0x3D)

-- neither ASCII whitespace nor this byte
abbrev pub is_word_byte : ℕ → ℕ → Bool
is_word_byte end b = not (is_ascii_whitespace b || b == end)

-- some bytes and the position after them, unless that is the end of all bytes
abbrev pub unless_at_end : List ℕ → List ℕ → Option (List ℕ × List ℕ)
unless_at_end text [] = None
unless_at_end text (b ∷ s) = Some (text, b ∷ s)

-- steps 10 to 12: a value in quotation marks, or one up to ASCII whitespace or `>`, which may be
-- empty
abbrev pub value_from : List ℕ → Option (List ℕ × List ℕ)
value_from [] = None
value_from (b ∷ s) =
    if is_quote b then up_to b s
    else unless_at_end (take_while (is_word_byte 0x3E) (b ∷ s)) (past (is_word_byte 0x3E) (b ∷ s))

-- step 9: the value after `=`
abbrev pub value_at : List ℕ → Option (List ℕ × List ℕ)
value_at s = value_from (past is_ascii_whitespace s)

-- an attribute of this name and the value found
abbrev pub named : List ℕ → List ℕ × List ℕ → Attribute × List ℕ
named name found = (record { name = name; value = found.0 }, found.1)

-- steps 7 and 8: the attribute's value follows `=`, and else is empty
abbrev pub valued : List ℕ → List ℕ → Option (Attribute × List ℕ)
valued name [] = None
valued name (b ∷ s) =
    if b == 0x3D then option_map (named name) (value_at s) else Some (named name ([], b ∷ s))

-- steps 3 to 8: an attribute whose name begins with this byte, even if that is `=`
abbrev pub attribute_from : ℕ → List ℕ → Option (Attribute × List ℕ)
attribute_from b s =
    valued (b ∷ take_while is_name_byte s) (past is_ascii_whitespace (past is_name_byte s))

-- an attribute that is there
abbrev pub sniffed : Attribute × List ℕ → Option Attribute × List ℕ
sniffed found = (Some found.0, found.1)

-- step 2: no attribute at `>`
abbrev pub attribute_or_none : List ℕ → Option (Option Attribute × List ℕ)
attribute_or_none [] = None
attribute_or_none (b ∷ s) =
    if b == 0x3E then Some (None, b ∷ s) else option_map sniffed (attribute_from b s)

-- "Get an attribute": the attribute, if there is one, and the position after it. `None` if the
-- bytes run out.
abbrev pub get_attribute : List ℕ → Option (Option Attribute × List ℕ)
get_attribute s = attribute_or_none (past is_separator s)
