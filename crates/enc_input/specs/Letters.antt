-- Code units that are ASCII or letters, and their bytes.
use Rattle.std.specs.Prelude.{ℕ, ◌+◌, ◌-◌, ◌%◌, ◌<◌, ◌≤◌, ◌⊎◌, nat_lt, if◌then◌else◌}
use Rattle.enc_utf8.specs.declared.letters.Letters.{Letters}

-- the byte of a code unit that is a letter
abbrev pub letter_byte : Letters → ℕ → ℕ
letter_byte letters unit = (unit + (0x1_0000 - letters.shift)) % 0x1_0000

-- ASCII, or a letter
abbrev pub IsPlainUnit : Letters → ℕ → Type 0
IsPlainUnit letters unit =
    (unit < 0x80) ⊎ ((letters.first ≤ letter_byte letters unit)
    × (letter_byte letters unit ≤ letters.last))

-- the byte of such a code unit
abbrev pub plain_byte : Letters → ℕ → ℕ
plain_byte letters unit =
    (if nat_lt unit 0x80 then unit else letter_byte letters unit) % 0x100
