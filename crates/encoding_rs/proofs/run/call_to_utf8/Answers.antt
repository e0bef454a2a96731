use Rattle.std.proofs.Common.{◌≡◌, ◌-◌, ap, sym, rules}
use Rattle.std.specs.Char.{encode_utf8}
use Rattle.std.specs.String.{string_bytes, string_capacity, string_len}
use Rattle.enc_utf8.specs.Text.{units_of_text}
use Rattle.enc_decoder.specs.Call.{decode_error_mode}
use Rattle.enc_decoder.specs.Sequence.{sequence_text}
use Rattle.encoding_rs.proofs.run.call_to_utf8.Goals as goal

pub returns-then-call : goal.returns-then-call
returns-then-call c =
    let made = c.decode_to_string-stop in
    let decodes = made.ensures.call.decodes in
    let mode = sym (ap decode_error_mode c.if-call.true) in
    let room : string_capacity c.in_ok-text.text - string_len c.in_ok-text.text
    ≡ c.args.call.room = search rules in
    let text : string_bytes made.new.dst
    ≡ units_of_text encode_utf8 (sequence_text decodes.call.put) =
    search (rules, decodes.call.text) in
    rw c.replacing_outcome.ensures (record {
      text = sequence_text decodes.call.put;
      scalars = decodes.call.scalars;
      is = text;
      decodes = rw (mode, room, decodes.call.text) at decodes;
    })

pub returns : goal.returns
returns c =
    let made = c.decode_to_string_without_replacement-result in
    let decodes = made.ensures.call.decodes in
    let mode = sym (ap decode_error_mode c.if-call.false) in
    let room : string_capacity c.in_ok-text.text - string_len c.in_ok-text.text
    ≡ c.args.call.room = search rules in
    let text : string_bytes made.new.dst
    ≡ units_of_text encode_utf8 (sequence_text decodes.call.put) =
    search (rules, decodes.call.text) in
    record {
      text = sequence_text decodes.call.put;
      scalars = decodes.call.scalars;
      is = text;
      decodes = rw (mode, room, decodes.call.text) at decodes;
    }
