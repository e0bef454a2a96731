-- Letters of a single-byte index whose code points follow one by one.
use Rattle.std.specs.Prelude.{◌≡◌, ℕ, ◌+◌, ◌-◌, ◌<◌, ◌≤◌, Some, List}
use Rattle.std.specs.Char.{IsScalar}
use Rattle.enc_index.specs.declared.table.Planes.TheVariants.{Basic}
use Rattle.enc_index.specs.Index.{Run, index_at}

-- each byte from the first letter to the last has the character of one code unit that the shift
-- says
abbrev pub HasLetters : List Run → ℕ × ℕ × ℕ → Type 0
HasLetters runs letters = (b : ℕ) → letters.0 ≤ b → b ≤ letters.1
    → (0x80 ≤ b) × (index_at Basic runs (b - 0x80) ≡ Some (b + letters.2))
    × IsScalar (b + letters.2) × (b + letters.2 < 0x10000)
