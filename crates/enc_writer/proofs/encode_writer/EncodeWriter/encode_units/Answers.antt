use Rattle.std.proofs.Common.{refl, ◌∙◌}
use Rattle.enc_encoder.specs.Steps.{step_chars}
use Rattle.enc_stream.proofs.UnreadTextLemmas.{lossy_unread}
use Rattle.enc_writer.proofs.EncodingLemmas.{none_unread}
use Rattle.enc_writer.proofs.WritingLemmas.{HasEncoded-call, bytes_left}
use Rattle.enc_writer.proofs.encode_writer.EncodeWriter.encode_units.Goals as goal

pub returns-clause-part : goal.returns-clause-part
returns-clause-part g c =
    let call = c.encode_utf16_after-call in
    let encodes = call.ensures.call in
    HasEncoded-call _ c.args.self.now.had_unmappables c.args.self.now.filled call.result.written
    c.args.self.now.output.now call.new.output call.result.result refl refl encodes refl
    call.ensures.held
    (lossy_unread c.args.text.now (step_chars encodes.call.done) encodes.rest _
    (λ i. (c.type_inv.text i).fits) encodes.call.reads encodes.call.units)

pub returns-clause-all : goal.returns-clause-all
returns-clause-all g c =
    λ at_end.
    let call = c.encode_utf16_after-call in
    let encodes = call.ensures.call in
    lossy_unread c.args.text.now (step_chars encodes.call.done) encodes.rest _
    (λ i. (c.type_inv.text i).fits) encodes.call.reads encodes.call.units
    ∙ none_unread call.result.result at_end refl refl encodes

pub returns-clause-filled : goal.returns-clause-filled
returns-clause-filled g c =
    let call = c.encode_utf16_after-call in
    let encodes = call.ensures.call in
    bytes_left c.args.self.now.encoder call.new.encoder call.result.result c.args.self.now.filled
    call.result.written call.new.output refl refl encodes refl call.ensures.written
    (lossy_unread c.args.text.now (step_chars encodes.call.done) encodes.rest _
    (λ i. (c.type_inv.text i).fits) encodes.call.reads encodes.call.units)
