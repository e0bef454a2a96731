use Rattle.std.proofs.Common.{arith}
use Rattle.enc_utf8.proofs.LaneLemmas.{unshifted_one}
use Rattle.enc_utf8.proofs.validity.iso_2022_jp_ascii_valid_up_to.Goals as goal

pub loop-at-preserved : goal.loop-at-preserved
loop-at-preserved c = (
  omega arith,
  unshifted_one _ _ c.loop-at.invariant.1 (omega arith)
      (c.is_iso_2022_jp_ascii.ensures.0 c.if-is_iso_2022_jp_ascii.true),
)
