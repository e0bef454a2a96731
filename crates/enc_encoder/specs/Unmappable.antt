-- The unmappable characters of a text, and the characters reported for them.
use Rattle.std.specs.Prelude.{ℕ, Bool, false, not, ◌||◌, Option, Some, None, is_some, List, [], ◌∷◌, ◌++◌}
use Rattle.enc_encoder.specs.EncoderRule.{EncoderRule}

-- whether a text has an unmappable character
abbrev pub any_unmappable : EncoderRule → List ℕ → Bool
any_unmappable e [] = false
any_unmappable e (c ∷ t) = not (is_some (e.bytes c)) || any_unmappable e t

-- the report of a character without bytes
abbrev pub report_for : EncoderRule → ℕ → Option (List ℕ) → List ℕ
report_for e c None = e.reported c ∷ []
report_for e c (Some b) = []

-- the characters reported for them, in order
abbrev pub reports_of : EncoderRule → List ℕ → List ℕ
reports_of e [] = []
reports_of e (c ∷ t) = report_for e c (e.bytes c) ++ reports_of e t
