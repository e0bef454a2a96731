use Rattle.std.proofs.Common.{◌≡◌, ◌∙◌, ap, sym, length, take, rules}
use Rattle.enc_decoder.specs.Call.{decode_error_mode}
use Rattle.enc_decoder.specs.Sequence.{sequence_text}
use Rattle.encoding_rs.proofs.DecodeCallLemmas.{refilled, by_utf_16}
use Rattle.encoding_rs.proofs.run.call_to_utf16.Goals as goal

pub returns-then-call : goal.returns-then-call
returns-then-call c =
    let made = c.decode_to_utf16-stop in
    let mode = sym (ap decode_error_mode c.if-call.true) in
    let room : length c.deref_mut.result.now ≡ c.args.call.room = search rules in
    let decodes = rw (mode, room) at made.ensures.call.decodes in
    let units = refilled _ _ _ _ c.deref.ensures.value (made.auto.dst ∙ c.deref_mut.ensures.len) in
    rw c.replacing_outcome.ensures (record {
      text = sequence_text decodes.call.put;
      scalars = decodes.call.scalars;
      is = by_utf_16 (sequence_text decodes.call.put) (ap (take made.result.2) (sym units))
          c.in_ok-text.ensures
          decodes.call.scalars decodes.call.text;
      decodes = rw decodes.call.text at decodes;
    })

pub returns : goal.returns
returns c =
    let made = c.decode_to_utf16_without_replacement-result in
    let mode = sym (ap decode_error_mode c.if-call.false) in
    let room : length c.deref_mut-2.result.now ≡ c.args.call.room = search rules in
    let decodes = rw (mode, room) at made.ensures.call.decodes in
    let units = refilled _ _ _ _ c.deref-2.ensures.value
    (made.auto.dst ∙ c.deref_mut-2.ensures.len) in
    record {
      text = sequence_text decodes.call.put;
      scalars = decodes.call.scalars;
      is = by_utf_16 (sequence_text decodes.call.put) (ap (take made.result.2) (sym units))
          c.in_ok-text-2.ensures
          decodes.call.scalars decodes.call.text;
      decodes = rw decodes.call.text at decodes;
    }
