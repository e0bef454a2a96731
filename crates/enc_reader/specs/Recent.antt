-- The bytes that a reader has decoded last, with which a malformed sequence may begin.
use Rattle.std.specs.Prelude.{◌≡◌, ℕ, ◌-◌, ◌≤◌, List, length, drop}

-- Two lists end with the same d elements, for each d that both have.
abbrev pub SameEnd : List ℕ → List ℕ → Type 0
SameEnd xs ys = (d : ℕ) → d ≤ length xs → d ≤ length ys
    → drop (length xs - d) xs ≡ drop (length ys - d) ys
