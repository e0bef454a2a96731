-- The rule of ISO-2022-JP, by character set and escape sequence (Encoding Standard 12.2.1,
-- "ISO-2022-JP decoder").
use Rattle.std.specs.Prelude.{ℕ, ◌+◌, ◌-◌, ◌*◌, Bool, true, false, ◌==◌, ◌&&◌, ◌||◌, not, nat_lt, nat_le, Option, Some}
use Rattle.std.specs.Prelude.{◌≡◌, None, is_some, List, [], ◌∷◌, drop, if◌then◌else◌}
use Rattle.enc_decoder.specs.declared.byte_codec.Kind.TheVariants.{Skipped, RepeatedEscape}
use Rattle.enc_decoder_iso_2022_jp.specs.declared.character_set.CharacterSet.{CharacterSet}
use Rattle.enc_decoder_iso_2022_jp.specs.declared.character_set.CharacterSet.TheVariants.{Ascii, Roman, Katakana}
use Rattle.enc_decoder_iso_2022_jp.specs.declared.character_set.CharacterSet.TheVariants.{Jis0208}
use Rattle.enc_decoder.specs.Segmentation.{Head, Rule, one_byte_head, character_head, malformed_head}
use Rattle.enc_index.specs.Runs.{jis0208_at}

-- The number of a character set in the segmentation, which starts with 0 for ASCII.
abbrev pub set_number : CharacterSet → ℕ
set_number Ascii = 0
set_number Roman = 1
set_number Katakana = 2
set_number Jis0208 = 3

-- the character set of a number
abbrev pub set_of : ℕ → CharacterSet
set_of set =
    if set == 1 then Roman else if set == 2 then Katakana else if set == 3 then Jis0208 else Ascii

-- the character set that an escape sequence designates, by its second and third byte
abbrev pub set_of_escape_bytes : ℕ → ℕ → Option CharacterSet
set_of_escape_bytes b c =
    if b == 0x28 then
    if c == 0x42 then Some Ascii else if c == 0x4A then Some Roman
    else if c == 0x49 then Some Katakana else None
    else if b == 0x24 && (c == 0x40 || c == 0x42) then Some Jis0208
    else None

-- the character set that an escape sequence at the front designates, if there is one
abbrev pub designated_set : List ℕ → Option CharacterSet
designated_set (a ∷ b ∷ c ∷ z) = if a == 0x1B then set_of_escape_bytes b c else None
designated_set _ = None

-- An escape sequence is skipped, or malformed if another one directly follows. A byte 1B that
-- begins none is malformed by itself, and the bytes after it are read in the designated character
-- set.
abbrev pub escape_head : ℕ → Option CharacterSet → Bool → Head
escape_head set None another = malformed_head set 0
escape_head set (Some s) true =
    record { more = 2; text = 0xFFFD ∷ []; kind = RepeatedEscape; set = set_number s }
escape_head set (Some s) false = record { more = 2; text = []; kind = Skipped; set = set_number s }

-- the characters of the character sets of one byte

abbrev pub ascii_char : ℕ → Option ℕ
ascii_char b = if nat_lt b 0x80 && not (b == 0x0E || b == 0x0F || b == 0x1B) then Some b else None

abbrev pub roman_char : ℕ → Option ℕ
roman_char b = if b == 0x5C then Some 0xA5 else if b == 0x7E then Some 0x203E else ascii_char b

abbrev pub katakana_char : ℕ → Option ℕ
katakana_char b = if nat_le 0x21 b && nat_le b 0x5F then Some (0xFF61 + (b - 0x21)) else None

-- the character that a byte is by itself
unfoldable pub one_byte_char : CharacterSet → ℕ → Option ℕ
one_byte_char Ascii b = ascii_char b
one_byte_char Roman b = roman_char b
one_byte_char Katakana b = katakana_char b
one_byte_char Jis0208 b = None

-- the bytes of the characters of jis0208, two each
abbrev pub is_jis0208_byte : ℕ → Bool
is_jis0208_byte b = nat_le 0x21 b && nat_le b 0x7E

-- whether a byte begins a character of two bytes
unfoldable pub is_lead_byte : CharacterSet → ℕ → Bool
is_lead_byte Jis0208 b = is_jis0208_byte b
is_lead_byte _ b = false

-- the character of a lead byte and the byte after it
unfoldable pub two_byte_char : ℕ → ℕ → Option ℕ
two_byte_char lead b =
    if is_jis0208_byte b then jis0208_at ((lead - 0x21) * 94 + (b - 0x21)) else None

-- two bytes of jis0208 are a character
abbrev pub IsJis0208Pair : ℕ → ℕ → ℕ → Type 0
IsJis0208Pair a b c = (is_jis0208_byte a ≡ true) × (two_byte_char a b ≡ Some c)

-- a character of two bytes, or two malformed bytes if there is none
abbrev pub two_byte_head : ℕ → Option ℕ → Head
two_byte_head set (Some c) = character_head set 1 c
two_byte_head set None = malformed_head set 1

-- A lead byte is malformed by itself at the end and before 1B. Otherwise it is a character with the
-- byte after it, or is malformed with it.
abbrev pub lead_byte_head : ℕ → ℕ → List ℕ → Head
lead_byte_head set lead [] = malformed_head set 0
lead_byte_head set lead (b ∷ z) =
    if b == 0x1B then malformed_head set 0 else two_byte_head set (two_byte_char lead b)

-- the first sequence, in the character set of this number
unfoldable pub iso_2022_jp_rule : Rule
iso_2022_jp_rule set b z =
    if b == 0x1B then escape_head set (designated_set (b ∷ z)) (is_some (designated_set (drop 2 z)))
    else if is_lead_byte (set_of set) b then lead_byte_head set b z
    else one_byte_head set (one_byte_char (set_of set) b)
