use Rattle.std.proofs.Common.{refl, rules}
use Rattle.std.specs.String.{string_bytes, string_len, string_capacity}
use Rattle.std.proofs.Common.{◌≡◌, ap, length, arith}
use Rattle.enc_output.specs.Output.{Output}
use Rattle.enc_stream.proofs.AppendedOutputLemmas.{over_text, reports_none, in_front, capacity_stays}
use Rattle.enc_stream.proofs.OutputFullLemmas.{four_bytes}
use Rattle.enc_stream.proofs.AppendedOutputLemmas.{still_goes_on}
use Rattle.enc_stream.proofs.DecoderCallLemmas.{pending_so_far}
use Rattle.enc_stream.proofs.decoder.Decoder.decode_to_string.Goals as goal

pub unreported-requires : goal.unreported-requires
unreported-requires c =
    record { none_malformed = reports_none four_bytes c.decode_chunk-outcome.ensures refl }

pub returns-clause-call : goal.returns-clause-call
returns-clause-call c =
    rw c.unreported.ensures (over_text {text = string_bytes c.args.dst.now} four_bytes
    c.decode_chunk-outcome.ensures
    (rw c.new-tail.ensures.now refl) refl (rw c.new-tail.ensures.room refl) (search rules) refl)

pub returns-clause-appended : goal.returns-clause-appended
returns-clause-appended c =
    in_front c.decode_chunk-outcome.ensures.wrote
    (ap (λ (o : Output). o.written) c.decode_chunk-outcome.ensures.onto)
    (rw c.new-tail.ensures.now refl) refl (search rules)

pub returns-clause-read : goal.returns-clause-read
returns-clause-read c = (returns-clause-call c).decodes.call.within

pub returns-clause-ended : goal.returns-clause-ended
returns-clause-ended c = (returns-clause-call c).decodes.finished

pub returns-clause-pending : goal.returns-clause-pending
returns-clause-pending c = pending_so_far _ (returns-clause-call c).decodes

pub returns-clause-progress : goal.returns-clause-progress
returns-clause-progress c = λ on. (returns-clause-call c).progress (still_goes_on _ on)

pub returns-clause-capacity : goal.returns-clause-capacity
returns-clause-capacity c =
    let tail = c.decode_chunk-outcome.new.out in
    let into = c.decode_chunk-outcome.ensures in
    let len_after : length (string_bytes tail.text.now) ≡ string_len tail.text.now =
    search rules in
    capacity_stays _ into.wrote {len = string_len c.args.dst.now}
    {capacity_after = string_capacity tail.text.now}
    (ap (λ (o : Output). o.written) into.onto) (ap (λ (o : Output). o.room) into.onto)
    (rw c.new-tail.ensures.now (search rules))
    (rw c.new-tail.ensures.room refl) (omega (arith, tail.fits, len_after)) (search rules)
