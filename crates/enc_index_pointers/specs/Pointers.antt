-- The pointers of characters (Encoding Standard 5, "index pointer", and those of single encodings).
use Rattle.std.specs.Prelude.{ℕ, zero, suc, Bool, true, false, ◌&&◌, ◌||◌, ◌==◌, not, nat_le, Option, Some, None}
use Rattle.std.specs.Prelude.{if◌then◌else◌}
use Rattle.enc_index.specs.declared.table.Planes.TheVariants.{Basic}
use Rattle.enc_index.specs.declared.single_byte_index.SingleByteIndex.{SingleByteIndex}
use Rattle.enc_index.specs.Index.{index_at}
use Rattle.enc_index.specs.Runs.{single_byte_runs, big5_at, euc_kr_at, gb18030_at, gb18030_ranges_at, jis0208_at}

-- a pointer, or the other one if there is none
abbrev pub pointer_or : Option ℕ → Option ℕ → Option ℕ
pointer_or (Some p) other = Some p
pointer_or None other = other

-- the first number below n that passes a test
unfoldable pub first_below : (ℕ → Bool) → ℕ → Option ℕ
first_below test zero = None
first_below test (suc n) = pointer_or (first_below test n) (if test n then Some n else None)

-- the last number below n that passes a test
unfoldable pub last_below : (ℕ → Bool) → ℕ → Option ℕ
last_below test zero = None
last_below test (suc n) = if test n then Some n else last_below test n

-- whether a pointer has this character
abbrev pub is_character : ℕ → Option ℕ → Bool
is_character c None = false
is_character c (Some d) = d == c

-- The pointer of a character in an index: the first of those below the bound that count and have
-- the character, or for some characters the last.
abbrev pub pointer_of : (ℕ → Option ℕ) → (ℕ → Bool) → (ℕ → Bool) → ℕ → ℕ → Option ℕ
pointer_of at counts is_by_last bound c =
    if is_by_last c then last_below (λ p. counts p && is_character c (at p)) bound
    else first_below (λ p. counts p && is_character c (at p)) bound

-- for no character the last pointer is taken
abbrev pub no_character : ℕ → Bool
no_character n = false

-- every pointer counts
abbrev pub any_pointer : ℕ → Bool
any_pointer n = true

-- the index pointer in a single-byte index
unfoldable pub single_byte_pointer : SingleByteIndex → ℕ → Option ℕ
single_byte_pointer index c =
    pointer_of (λ p. index_at Basic (single_byte_runs index) p) any_pointer no_character 128 c

-- the index pointer in index EUC-KR
unfoldable pub euc_kr_pointer : ℕ → Option ℕ
euc_kr_pointer c = pointer_of euc_kr_at any_pointer no_character 23940 c

-- the index pointer in index gb18030
unfoldable pub gb18030_pointer : ℕ → Option ℕ
gb18030_pointer c = pointer_of gb18030_at any_pointer no_character 23940 c

-- the index pointer in index jis0208, in the rows for which EUC-JP and ISO-2022-JP have bytes
unfoldable pub jis0208_pointer : ℕ → Option ℕ
jis0208_pointer c = pointer_of jis0208_at any_pointer no_character 8836 c

-- the index Shift_JIS pointer, without NEC's selection of IBM's entries
abbrev pub is_shift_jis_pointer : ℕ → Bool
is_shift_jis_pointer p = not (nat_le 8272 p && nat_le p 8835)

unfoldable pub shift_jis_pointer : ℕ → Option ℕ
shift_jis_pointer c = pointer_of jis0208_at is_shift_jis_pointer no_character 11280 c

-- the index Big5 pointer, without the Hong Kong additions at the start; the last for six characters
abbrev pub is_big5_pointer : ℕ → Bool
is_big5_pointer p = nat_le 5024 p

-- the six characters for which the last pointer is taken
abbrev pub is_last_in_big5 : ℕ → Bool
is_last_in_big5 c = c == 0x2550
    || (c == 0x255E || (c == 0x2561 || (c == 0x256A || (c == 0x5341 || c == 0x5345))))

unfoldable pub big5_pointer : ℕ → Option ℕ
big5_pointer c = pointer_of big5_at is_big5_pointer is_last_in_big5 19782 c

-- the index gb18030 ranges pointer: 7457 for U+E7C7 alone, and none that is past the ranges
abbrev pub is_ranges_pointer : ℕ → Bool
is_ranges_pointer p = not (p == 7457) && (nat_le p 39419 || nat_le 189000 p)

unfoldable pub gb18030_ranges_pointer : ℕ → Option ℕ
gb18030_ranges_pointer c =
    if c == 0xE7C7 then Some 7457 else pointer_of gb18030_ranges_at is_ranges_pointer no_character
    1237576 c
