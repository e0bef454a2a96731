-- The rule of gb18030 and GBK, which have the same decoder (Encoding Standard 10.2.1, "gb18030
-- decoder"; 10.1.1).
use Rattle.std.specs.Prelude.{ℕ, ◌+◌, ◌-◌, ◌*◌, Bool, ◌&&◌, ◌||◌, ◌==◌, nat_le, nat_lt, Option, Some, None, List, []}
use Rattle.std.specs.Prelude.{◌∷◌, if◌then◌else◌}
use Rattle.enc_decoder.specs.declared.byte_codec.Text.TheVariants.{One}
use Rattle.enc_decoder.specs.declared.prefix.Prefix.{Prefix}
use Rattle.enc_decoder.specs.declared.prefix.Prefix.TheVariants.{Complete, Malformed, Incomplete}
use Rattle.enc_index.specs.Runs.{gb18030_at, gb18030_ranges_at}
use Rattle.enc_decoder_multi_byte.specs.DoubleByte.{text_of_char, first_prefix, trail_prefix}

-- the first and the third byte
abbrev pub is_gb18030_lead : ℕ → Bool
is_gb18030_lead b = nat_le 0x81 b && nat_le b 0xFE

-- the second byte of two
abbrev pub is_gb18030_trail : ℕ → Bool
is_gb18030_trail b = (nat_le 0x40 b && nat_le b 0x7E) || (nat_le 0x80 b && nat_le b 0xFE)

-- the second and the fourth byte of four
abbrev pub is_digit : ℕ → Bool
is_digit b = nat_le 0x30 b && nat_le b 0x39

-- the character of a byte that stands alone
abbrev pub gb18030_single_char : ℕ → Option ℕ
gb18030_single_char b = if nat_lt b 0x80 then Some b else if b == 0x80 then Some 0x20AC else None

-- the pointer and the character of two bytes
abbrev pub gb18030_pair_pointer : ℕ → ℕ → ℕ
gb18030_pair_pointer lead trail =
    (lead - 0x81) * 190 + (trail - (if nat_lt trail 0x7F then 0x40 else 0x41))

abbrev pub gb18030_pair_char : ℕ → ℕ → Option ℕ
gb18030_pair_char lead b =
    if is_gb18030_trail b then gb18030_at (gb18030_pair_pointer lead b) else None

-- four bytes (Encoding Standard 5, "index gb18030 ranges code point"): some pointers have no
-- character, and one is in no range
abbrev pub four_byte_pointer : ℕ → ℕ → ℕ → ℕ → ℕ
four_byte_pointer a b c d = ((a - 0x81) * 10 + (b - 0x30)) * 1260 + ((c - 0x81) * 10 + (d - 0x30))

-- the pointers that have no character
abbrev pub is_beyond_ranges : ℕ → Bool
is_beyond_ranges pointer = (nat_lt 39419 pointer && nat_lt pointer 189000) || nat_lt 1237575 pointer

-- the character of a pointer of four bytes
abbrev pub ranges_code_point : ℕ → Option ℕ
ranges_code_point pointer =
    if is_beyond_ranges pointer then None
    else if pointer == 7457 then Some 0xE7C7
    else gb18030_ranges_at pointer

-- four bytes: their character, or malformed as a whole
abbrev pub four_byte_prefix : Option ℕ → Prefix
four_byte_prefix (Some c) = Complete (One c)
four_byte_prefix None = Malformed 4

-- The kind of a prefix. If a third or a fourth byte is wrong, the first byte alone is malformed.
abbrev pub gb18030_prefix : List ℕ → Prefix
gb18030_prefix [] = Incomplete
gb18030_prefix (a ∷ []) = first_prefix (is_gb18030_lead a) (gb18030_single_char a)
gb18030_prefix (a ∷ b ∷ []) =
    if is_digit b then Incomplete else trail_prefix 1 b (text_of_char (gb18030_pair_char a b))
gb18030_prefix (a ∷ b ∷ c ∷ []) = if is_gb18030_lead c then Incomplete else Malformed 1
gb18030_prefix (a ∷ b ∷ c ∷ d ∷ z) =
    if is_digit d then four_byte_prefix (ranges_code_point (four_byte_pointer a b c d))
    else Malformed 1
