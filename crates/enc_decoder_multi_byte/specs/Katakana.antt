-- Half-width katakana in EUC-JP and Shift_JIS (Encoding Standard 12.1.1, 12.3.1).
use Rattle.std.specs.Prelude.{ℕ, ◌+◌, ◌-◌, Bool, ◌&&◌, nat_le}

-- the bytes of half-width katakana
abbrev pub is_katakana_byte : ℕ → Bool
is_katakana_byte b = nat_le 0xA1 b && nat_le b 0xDF

-- A1 to DF are U+FF61 to U+FF9F
abbrev pub katakana_of_byte : ℕ → ℕ
katakana_of_byte b = 0xFF61 + (b - 0xA1)
