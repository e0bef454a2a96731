use Rattle.std.proofs.Common.{arith}
use Rattle.std.proofs.lemmas.List.{length-set}
use Rattle.enc_sniff.proofs.SpaceLemmas.{one_copied}
use Rattle.enc_sniff.proofs.quoted.copy_label.Goals as goal

pub bytes-preserved : goal.bytes-preserved
bytes-preserved c =
    record {
      same =
          one_copied c.bytes.room _ _ _ c.bytes.len c.in-Some.byte c.in-Some.ensures.value
          c.bytes.invariant.same (omega arith);
      within = omega (arith, length-set c.bytes.room c.bytes.len c.in-Some.byte);
    }
