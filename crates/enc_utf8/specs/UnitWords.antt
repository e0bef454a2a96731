-- The UTF-8 of a code unit of UTF-16 as a word of three bytes, the last of which count for longer
-- code units alone (Unicode Standard 3.9, table 3-6).
use Rattle.std.specs.Prelude.{ℕ, ◌+◌, ◌*◌, ◌/◌, ◌%◌, nat_lt, if◌then◌else◌}

-- the first two bytes of the UTF-8 of a code unit, the first lowest (Unicode Standard 3.9, table
-- 3-6)
abbrev pub unit_word_low : ℕ → ℕ
unit_word_low unit =
    if nat_lt unit 0x80 then unit
    else if nat_lt unit 0x800 then 0x80C0 + unit / 64 + unit % 64 * 256
    else 0x80E0 + unit / 4096 + unit / 64 % 64 * 256

-- the third byte, if the code unit has three
abbrev pub unit_word_high : ℕ → ℕ
unit_word_high unit = 0x80 + unit % 64

-- the whole word
abbrev pub unit_word : ℕ → ℕ
unit_word unit = unit_word_low unit + unit_word_high unit * 65536
