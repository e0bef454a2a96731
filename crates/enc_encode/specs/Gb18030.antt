-- The bytes of characters in gb18030 (Encoding Standard 10.2.2, "gb18030 encoder") and in GBK,
-- which has no four bytes (10.1.2).
use Rattle.std.specs.Prelude.{ℕ, ◌+◌, ◌/◌, ◌%◌, Bool, ◌==◌, ◌&&◌, nat_lt, Option, Some, None, List, [], ◌∷◌}
use Rattle.std.specs.Prelude.{if◌then◌else◌}
use Rattle.enc_encoder.specs.declared.byte_lengths.ByteLengths.{ByteLengths}
use Rattle.enc_encoder.specs.declared.byte_lengths.ByteLengths.TheVariants as lengths
use Rattle.enc_index_pointers.specs.Pointers.{gb18030_pointer, gb18030_ranges_pointer}
use Rattle.enc_encoder.specs.Stateless.{with_ascii, bytes_of_pointer}
use Rattle.enc_encode.specs.PrivateUse.{private_use_rows}

-- the second byte of a cell of a row
abbrev pub gb18030_trail_byte : ℕ → ℕ
gb18030_trail_byte cell = cell + (if nat_lt cell 0x3F then 0x40 else 0x41)

-- the two bytes of a pointer
abbrev pub gb18030_pair_bytes : ℕ → List ℕ
gb18030_pair_bytes p = (p / 190 + 0x81) ∷ gb18030_trail_byte (p % 190) ∷ []

-- the four bytes of a pointer of the ranges
abbrev pub gb18030_four_bytes : ℕ → List ℕ
gb18030_four_bytes p =
    (p / 12600 + 0x81) ∷ (p % 12600 / 1260 + 0x30) ∷ (p % 1260 / 10 + 0x81) ∷ (p % 10 + 0x30) ∷ []

-- the two bytes of a character, or in gb18030 four
abbrev pub two_or_four_bytes : Bool → ℕ → Option ℕ → Option (List ℕ)
two_or_four_bytes is_gbk c (Some p) = Some (gb18030_pair_bytes p)
two_or_four_bytes is_gbk c None = if is_gbk then None
    else bytes_of_pointer gb18030_four_bytes (gb18030_ranges_pointer c)

-- the two bytes of a character in rows of a code point and two bytes, if one is its row
abbrev pub row_bytes : List (ℕ × ℕ × ℕ) → ℕ → Option (List ℕ)
row_bytes [] c = None
row_bytes (row ∷ rows) c = if row.0 == c then Some (row.1 ∷ row.2 ∷ []) else row_bytes rows c

-- the bytes of a character's row, or by the indexes if it has none
abbrev pub row_or_index_bytes : Bool → ℕ → Option (List ℕ) → Option (List ℕ)
row_or_index_bytes is_gbk c (Some b) = Some b
row_or_index_bytes is_gbk c None = two_or_four_bytes is_gbk c (gb18030_pointer c)

-- The bytes of a character beyond ASCII. U+E5E5 is unmappable. Characters of private use that
-- GB18030-2022 took from index gb18030 keep their two bytes (step 5).
abbrev pub gb18030_other : Bool → ℕ → Option (List ℕ)
gb18030_other is_gbk c =
    if c == 0xE5E5 then None
    else if is_gbk && c == 0x20AC then Some (0x80 ∷ [])
    else row_or_index_bytes is_gbk c (row_bytes private_use_rows c)

-- the bytes of a character
abbrev pub gb18030_bytes : Bool → ℕ → Option (List ℕ)
gb18030_bytes is_gbk = with_ascii (gb18030_other is_gbk)

-- the formulas for lengths; GBK has no four bytes
abbrev pub gb18030_lengths : Bool → ByteLengths
gb18030_lengths is_gbk = if is_gbk then lengths.TwoBytes else lengths.Gb18030
