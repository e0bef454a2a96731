-- The state of a codec between two bytes: its rule, the designated character set and the pending
-- bytes.
use Rattle.std.specs.Prelude.{ℕ, List, ◌++◌}
use Rattle.enc_decoder.specs.Segmentation.{Rule, sequences_of}
use Rattle.enc_decoder.specs.Remainder.{Remainder}

-- its rule, the designated character set, and the pending bytes (read, and their sequence not yet
-- put out)
pub record CodecState : Type 0 where
  pub rule : Rule
  pub set : ℕ
  pub pending : List ℕ

-- its remainder: the segmentation of the pending bytes and those that follow
abbrev pub remainder_of : CodecState → Remainder
remainder_of s = record {
  pending = s.pending;
  set = s.set;
  sequences = λ y. sequences_of s.rule s.set (s.pending ++ y);
}
