-- Sources of bytes, by the bytes still to come.
use Rattle.std.specs.Prelude.{◌≡◌, ℕ, List, [], Option, option_map}

-- No byte is still to come, if the source models its bytes.
abbrev pub IsExhausted : Option (List ℕ) → Type 0
IsExhausted remaining = remaining ≡ option_map (λ _. []) remaining
