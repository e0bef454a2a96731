-- Numbers among the arguments: decimal digits, maybe after a plus sign, of a number below 2^64.
use Rattle.std.specs.Prelude.{◌≡◌, ℕ, ◌^◌, ◌<◌, List}
use Rattle.std.specs.Str.Parse.{IsNumeral, digits_value, without_leading_plus}

-- The word is this number.
abbrev pub IsNumber : List ℕ → ℕ → Type 0
IsNumber word n = IsNumeral 10 (without_leading_plus word)
    × (n ≡ digits_value 10 (without_leading_plus word)) × (n < 2 ^ 64)

-- The word is no number, or one that is too large.
abbrev pub IsNoNumber : List ℕ → Type 0
IsNoNumber word = (n : ℕ) → ¬ (IsNumber word n)
