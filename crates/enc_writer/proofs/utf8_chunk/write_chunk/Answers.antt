use Rattle.std.proofs.Common.{rules, ◌≡◌, ◌++◌, drop, refl}
use Rattle.enc_utf8.specs.declared.coder_result.CoderResult.TheVariants.{InputEmpty}
use Rattle.enc_writer.specs.Writer.{writer_of}
use Rattle.enc_writer.specs.Utf8Writing.{utf8_state, text_to_come}
use Rattle.enc_writer.proofs.SinkLemmas.{on_err}
use Rattle.enc_writer.proofs.Utf8WritingLemmas.{read_none, read_then, read_call, decoded_call, none_left}
use Rattle.enc_writer.proofs.Utf8WritingLemmas.{written_all, utf8_stops}
use Rattle.enc_writer.proofs.utf8_chunk.write_chunk.Goals as goal

pub calls-init : goal.calls-init
calls-init g c = record {
  reads = read_none _ (utf8_state c.args.decoder.now (writer_of c.args.writer.now)) _ _;
  unfinished = c.requires.unfinished;
  same_writer = refl;
}

pub returns-in_err-write_str-clause-err : goal.returns-in_err-write_str-clause-err
returns-in_err-write_str-clause-err g c =
    let call = c.decode_to_utf8-outcome in
    let rest = c.calls.rest.now in
    on_err c.from_residual.result _
    (utf8_stops _ (λ z. text_to_come call.new.self (drop call.result.1 rest ++ z))
    c.calls.invariant.reads
    (decoded_call rest c.args.last _ call.result.0 call.result.1 call.ensures.call.decodes
    c.from_utf8_unchecked.ensures)
    c.in_err-write_str.ensures.err)

pub returns-then-eq-clause-ok : goal.returns-then-eq-clause-ok
returns-then-eq-clause-ok g c =
    let call = c.decode_to_utf8-outcome in
    let rest = c.calls.rest.now in
    let at_end : call.result.0 ≡ InputEmpty = search rules in
    written_all (read_then c.calls.invariant.reads
    (read_call rest c.args.last _ call.result.0 call.result.1 call.ensures.call.decodes
    c.from_utf8_unchecked.ensures c.in_ok-write_str.ensures.ok.alone))
    (none_left call.result.0 at_end call.ensures.call.decodes)

pub calls-preserved : goal.calls-preserved
calls-preserved g c =
    let call = c.decode_to_utf8-outcome in
    let rest = c.calls.rest.now in
    record {
      reads = rw c.split_at.ensures.back
          (read_then c.calls.invariant.reads
          (read_call rest c.args.last _ call.result.0 call.result.1 call.ensures.call.decodes
          c.from_utf8_unchecked.ensures c.in_ok-write_str.ensures.ok.alone));
      unfinished = search rules;
      same_writer = search rules;
    }
