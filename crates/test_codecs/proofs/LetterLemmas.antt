-- Inputs with one code unit a character.
use Rattle.std.proofs.Common.{◌≡◌, ℕ, ◌+◌, List, [], ◌∷◌, ◌++◌, length, refl, ap, arith}
use Rattle.enc_utf8.specs.Text.{units_of_text}

-- there are as many code units as characters
pub one_unit_each : (text : List ℕ) → length (units_of_text (λ c. c ∷ []) text) ≡ length text
one_unit_each [] = refl
one_unit_each (c ∷ cs) = grind (arith, one_unit_each cs)
