use Rattle.std.proofs.Common.{◌≡◌, ◌∙◌, ◌&&◌, ◌++◌, ap, length, chars, nat_le, append_assoc, rules}
use Rattle.enc_encoder.specs.Steps.{step_chars}
use Rattle.enc_encoder.specs.Text.{reference_after}
use Rattle.encoding_rs.proofs.EncodeCallLemmas.{is_last}
use Rattle.encoding_rs.proofs.encode_run.make_call.Goals as goal

last : (c : goal.After-drop-wrote-2)
    → c.is_empty-last.result ≡ nat_le (length (chars c.args.unread.now)) c.args.call.offer
last c = is_last _ _ c.args.call.offer _ c.is_empty-last.ensures c.split_at_char.ensures.none_left

pub returns-clause-call : goal.returns-clause-call
returns-clause-call c =
    let wrote = c.in_ok-outcome.wrote.items in
    let bytes : c.append_reference.new.bytes.items
    ≡ (c.args.bytes.now.items ++ wrote) ++ reference_after c.in_ok-outcome.outcome.result =
    search rules in
    let encodes = rw (c.split_at_char.ensures.front, last c) at c.in_ok-outcome.ensures in
    record {
      wrote = wrote;
      units = c.in_ok-outcome.outcome.read;
      encodes = encodes;
      chars = c.chars_in_units-read.ensures (step_chars encodes.call.done)
          encodes.rest (c.split_at_char.ensures.front ∙ encodes.call.reads) encodes.call.units;
      bytes = bytes ∙ append_assoc c.args.bytes.now.items wrote _;
    }

pub returns-clause-ended : goal.returns-clause-ended
returns-clause-ended c = ap (λ b. b && c.reads_all.result) (last c)
    ∙ ap (λ b. nat_le (length (chars c.args.unread.now)) c.args.call.offer && b) c.reads_all.ensures
