use Rattle.enc_output.proofs.PiecesLemmas.{then_rest}
use Rattle.enc_output.proofs.utf16_slice.Utf16Slice.append_narrows.Goals as goal

pub loop-at-preserved : goal.loop-at-preserved
loop-at-preserved c =
    then_rest c.split_at.ensures.back c.loop-at.invariant c.append_narrow-len.ensures
