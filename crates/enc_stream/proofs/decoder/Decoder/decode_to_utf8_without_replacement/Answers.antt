use Rattle.std.proofs.Common.{refl, arith, rules}
use Rattle.enc_utf8.proofs.UnitsLemmas.{text_utf8}
use Rattle.enc_stream.proofs.AppendedOutputLemmas.{over_slice}
use Rattle.enc_stream.proofs.OutputFullLemmas.{four_bytes}
use Rattle.enc_stream.proofs.DecoderCallLemmas.{pending_so_far, reported_so_far}
use Rattle.enc_stream.proofs.decoder.Decoder.decode_to_utf8_without_replacement.Goals as goal

pub returns-clause-call : goal.returns-clause-call
returns-clause-call c =
    over_slice four_bytes c.decode_chunk-outcome.ensures (rw c.new-out.ensures.len refl)
    (rw (c.new-out.ensures.now, c.new-out.ensures.len) (omega arith)) (search rules)
    ((c.decode_chunk-outcome.ensures.converts _ four_bytes).decodes.call.none_replaced refl)

pub returns-clause-read : goal.returns-clause-read
returns-clause-read c = (returns-clause-call c).decodes.call.within

pub returns-clause-text : goal.returns-clause-text
returns-clause-text c = let call = (returns-clause-call c).decodes.call in
    text_utf8 _ _ call.scalars call.text

pub returns-clause-ended : goal.returns-clause-ended
returns-clause-ended c = (returns-clause-call c).decodes.finished

pub returns-clause-pending : goal.returns-clause-pending
returns-clause-pending c = pending_so_far _ (returns-clause-call c).decodes

pub returns-clause-within : goal.returns-clause-within
returns-clause-within c = reported_so_far _ (returns-clause-call c).decodes

pub returns-clause-progress : goal.returns-clause-progress
returns-clause-progress c = (returns-clause-call c).progress
