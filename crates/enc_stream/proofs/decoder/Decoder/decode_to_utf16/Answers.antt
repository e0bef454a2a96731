use Rattle.std.proofs.Common.{refl, arith, rules}
use Rattle.enc_stream.proofs.AppendedOutputLemmas.{over_slice, reports_none, still_goes_on}
use Rattle.enc_stream.proofs.OutputFullLemmas.{two_units}
use Rattle.enc_stream.proofs.DecoderCallLemmas.{pending_so_far}
use Rattle.enc_stream.proofs.decoder.Decoder.decode_to_utf16.Goals as goal

pub unreported-requires : goal.unreported-requires
unreported-requires c =
    record { none_malformed = reports_none two_units c.decode_chunk-outcome.ensures refl }

pub returns-clause-call : goal.returns-clause-call
returns-clause-call c =
    rw c.unreported.ensures (over_slice two_units c.decode_chunk-outcome.ensures
    (rw c.new-units.ensures.len refl)
    (rw (c.new-units.ensures.now, c.new-units.ensures.len) (omega arith)) (search rules) refl)

pub returns-clause-read : goal.returns-clause-read
returns-clause-read c = (returns-clause-call c).decodes.call.within

pub returns-clause-ended : goal.returns-clause-ended
returns-clause-ended c = (returns-clause-call c).decodes.finished

pub returns-clause-pending : goal.returns-clause-pending
returns-clause-pending c = pending_so_far _ (returns-clause-call c).decodes

pub returns-clause-progress : goal.returns-clause-progress
returns-clause-progress c = λ on. (returns-clause-call c).progress (still_goes_on _ on)
