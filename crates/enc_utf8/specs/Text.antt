-- A text and its code units (Unicode Standard 3.9, code unit sequences).
use Rattle.std.specs.Prelude.{◌≡◌, ℕ, true, List, [], ◌∷◌, ◌++◌}
use Rattle.std.specs.Str.{all_scalars}

-- a text: a list of Unicode scalar values (Unicode Standard 3.9, D76)
abbrev pub AreScalars : List ℕ → Type 0
AreScalars text = all_scalars text ≡ true

-- the code units of a text
abbrev pub units_of_text : (ℕ → List ℕ) → List ℕ → List ℕ
units_of_text units_of [] = []
units_of_text units_of (c ∷ cs) = units_of c ++ units_of_text units_of cs

-- no two texts have the same code units
abbrev pub DetermineTexts : (ℕ → List ℕ) → Type 0
DetermineTexts units_of = (t u : List ℕ) → AreScalars t → AreScalars u
    → units_of_text units_of t ≡ units_of_text units_of u → t ≡ u
