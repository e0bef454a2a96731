-- The length of the prefix that determines the first sequences of an input.
use Rattle.std.specs.Prelude.{ℕ, ◌+◌, ◌-◌, ◌≤◌, List, [], ◌∷◌, drop}
use Rattle.enc_decoder.specs.Sequence.{Sequence}
use Rattle.enc_decoder.specs.Segmentation.{Rule}
use Rattle.enc_decoder.specs.RuleLaws.{IsLookahead}

-- The first k bytes of an input contain each of its first sequences with its lookahead.
abbrev pub CoverLookahead : Rule → ℕ → List ℕ → List Sequence → ℕ → Type 0
CoverLookahead rule set z [] k = Unit {0}
CoverLookahead rule set [] (s ∷ ss) k = ⊥
CoverLookahead rule set (b ∷ z) (s ∷ ss) k =
    ((n : ℕ) × IsLookahead rule set b z n × (1 + (rule set b z).more + n ≤ k))
    × CoverLookahead rule (rule set b z).set (drop (rule set b z).more z) ss
    (k - (1 + (rule set b z).more))
