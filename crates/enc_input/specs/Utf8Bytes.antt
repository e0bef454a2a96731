-- Characters of UTF-8 that are written as one byte each, sixteen bytes at a time.
use Rattle.std.specs.Prelude.{◌≡◌, ℕ, ◌+◌, ◌*◌, ◌/◌, ◌%◌, ◌^◌, ◌<◌, List, slice_index}
use Rattle.std.specs.Prelude.{min, nat_le, nat_lt, if◌then◌else◌}

-- the character that begins with these two bytes, or with the first alone, if it is below U+0800
-- (Unicode Standard 3.9, table 3-6). Of a longer character it is a number above.
abbrev pub short_unit : ℕ → ℕ → ℕ
short_unit first second =
    if nat_lt first 0x80 then first else (first * 0x40 + second + 0xCF80) % 0x1_0000

-- 1 for the first byte of a character beyond ASCII, 0 for another
abbrev pub lead_bit : ℕ → ℕ
lead_bit byte = if nat_le 0xC0 byte then 1 else 0

-- What each of the first sixteen bytes begins, U+07FF in place of all above it, and which of them
-- are lead bytes.
pub record AreLanesOf (text units : List ℕ) (leads : ℕ) : Type 0 where
  pub unit : (k : ℕ) → k < 16
      → slice_index units k ≡ min (short_unit (slice_index text k) (slice_index text (k + 1))) 0x7FF
  pub lead : (k : ℕ) → k < 16 → leads / 2 ^ k % 2 ≡ lead_bit (slice_index text k)
