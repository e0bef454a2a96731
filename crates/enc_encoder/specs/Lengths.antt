-- The lengths to allocate for an encoder's bytes: checked formulas, by the kind of encoding.
use Rattle.std.specs.Prelude.{ℕ, Option, Some}
use Rattle.enc_utf8.specs.Checked.{checked_add, checked_mul}
use Rattle.enc_encoder.specs.declared.byte_lengths.ByteLengths.{ByteLengths}
use Rattle.enc_encoder.specs.declared.byte_lengths.ByteLengths.TheVariants.{Utf8, OneByte, TwoBytes, Gb18030, Iso2022Jp}

-- for n code units of UTF-8,
abbrev pub from_utf_8_length : ByteLengths → ℕ → Option ℕ
from_utf_8_length Utf8 n = Some n
from_utf_8_length OneByte n = Some n
from_utf_8_length TwoBytes n = Some n
from_utf_8_length Gb18030 n = checked_mul (Some n) 2
from_utf_8_length Iso2022Jp n = checked_add (checked_mul (Some n) 4) 3

-- and for n of UTF-16
abbrev pub from_utf_16_length : ByteLengths → ℕ → Option ℕ
from_utf_16_length Utf8 n = checked_mul (Some n) 3
from_utf_16_length OneByte n = Some n
from_utf_16_length TwoBytes n = checked_mul (Some n) 2
from_utf_16_length Gb18030 n = checked_mul (Some n) 4
from_utf_16_length Iso2022Jp n = checked_add (checked_mul (Some n) 5) 3

-- the greatest number of bytes of a character, with the escape sequence before it, for each of its
-- code units of UTF-8,
abbrev pub max_bytes_per_utf_8_unit : ByteLengths → ℕ
max_bytes_per_utf_8_unit Utf8 = 1
max_bytes_per_utf_8_unit OneByte = 1
max_bytes_per_utf_8_unit TwoBytes = 1
max_bytes_per_utf_8_unit Gb18030 = 2
max_bytes_per_utf_8_unit Iso2022Jp = 4

-- and of UTF-16
abbrev pub max_bytes_per_utf_16_unit : ByteLengths → ℕ
max_bytes_per_utf_16_unit Utf8 = 3
max_bytes_per_utf_16_unit OneByte = 1
max_bytes_per_utf_16_unit TwoBytes = 2
max_bytes_per_utf_16_unit Gb18030 = 4
max_bytes_per_utf_16_unit Iso2022Jp = 5
