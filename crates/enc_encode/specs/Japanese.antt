-- Characters that the encoders of the three Japanese encodings treat alike (Encoding Standard 12).
use Rattle.std.specs.Prelude.{ℕ, ◌+◌, ◌-◌, Bool, ◌==◌, ◌&&◌, nat_le, if◌then◌else◌}

-- half-width katakana, which have one byte in Shift_JIS and JIS X 0201
abbrev pub is_halfwidth_katakana : ℕ → Bool
is_halfwidth_katakana c = nat_le 0xFF61 c && nat_le c 0xFF9F

-- the byte of half-width katakana: U+FF61 to U+FF9F are A1 to DF
abbrev pub katakana_byte : ℕ → ℕ
katakana_byte c = c - 0xFF61 + 0xA1

-- U+2212, the minus sign, is looked up as U+FF0D, the full-width one
abbrev pub with_fullwidth_minus : ℕ → ℕ
with_fullwidth_minus c = if c == 0x2212 then 0xFF0D else c
