-- Bytes that are ASCII or letters.
use Rattle.std.specs.Prelude.{ℕ, ◌+◌, ◌%◌, ◌<◌, ◌≤◌, ◌⊎◌, nat_le, if◌then◌else◌}
use Rattle.enc_utf8.specs.declared.letters.Letters.{Letters}

-- ASCII, or a letter
abbrev pub IsPlain : Letters → ℕ → Type 0
IsPlain letters b = (b < 0x80) ⊎ ((0x80 ≤ b) × (letters.first ≤ b) × (b ≤ letters.last))

-- the code unit of such a byte
abbrev pub plain_unit : Letters → ℕ → ℕ
plain_unit letters b = if nat_le 0x80 b then (b + letters.shift) % 0x1_0000 else b
