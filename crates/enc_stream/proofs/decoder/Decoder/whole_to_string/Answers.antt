use Rattle.std.proofs.Common.{refl, rules, ap}
use Rattle.std.specs.String.{string_bytes}
use Rattle.enc_output.specs.Output.{Output}
use Rattle.enc_stream.proofs.AppendedOutputLemmas.{over_text, reports_none, in_front}
use Rattle.enc_stream.proofs.OutputFullLemmas.{four_bytes}
use Rattle.enc_stream.proofs.LifeCycleLemmas.{starts}
use Rattle.enc_stream.proofs.decoder.Decoder.whole_to_string.Goals as goal

pub decode_sniffed-outcome-requires : goal.decode_sniffed-outcome-requires
decode_sniffed-outcome-requires c = record {
  unfinished = rw c.start-parts.ensures.life (starts c.args.handling c.args.encoding).going;
  parts = c.start-parts.ensures.parts;
  within = c.requires.within;
  sniffed = rw c.start-parts.ensures.life c.requires.sniffed;
}

pub unreported-requires : goal.unreported-requires
unreported-requires c =
    record { none_malformed = reports_none four_bytes c.decode_sniffed-outcome.ensures.call refl }

pub returns-clause-call : goal.returns-clause-call
returns-clause-call c =
    let call = rw c.start-parts.ensures.state at c.decode_sniffed-outcome.ensures.call in
    rw c.unreported.ensures (over_text {text = string_bytes c.args.dst.now} four_bytes
    call (rw c.new-tail.ensures.now refl) refl (rw c.new-tail.ensures.room refl) (search rules)
    refl)

pub returns-clause-read : goal.returns-clause-read
returns-clause-read c = (returns-clause-call c).decodes.call.within

pub returns-clause-appended : goal.returns-clause-appended
returns-clause-appended c =
    in_front c.decode_sniffed-outcome.ensures.call.wrote
    (ap (λ (o : Output). o.written) c.decode_sniffed-outcome.ensures.call.onto)
    (rw c.new-tail.ensures.now refl) refl (search rules)
