-- The bytes that a bound leaves of a source.
use Rattle.std.specs.Prelude.{ℕ, List, take, Option, None, Some, option_map}

-- the first bytes, as many as the bound has, or all if there is none; where they are known
abbrev pub bytes_within : Option ℕ → Option (List ℕ) → Option (List ℕ)
bytes_within None bytes = bytes
bytes_within (Some most) bytes = option_map (take most) bytes
