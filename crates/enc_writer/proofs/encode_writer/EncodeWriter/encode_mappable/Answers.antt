use Rattle.std.proofs.Common.{refl, ◌∙◌}
use Rattle.enc_encoder.specs.Steps.{step_chars}
use Rattle.enc_stream.proofs.UnreadTextLemmas.{chars_after}
use Rattle.enc_writer.proofs.WritingLemmas.{bytes_left_reported}
use Rattle.enc_writer.proofs.ReportLemmas.{ReportsSteps-call, none_left}
use Rattle.enc_writer.proofs.encode_writer.EncodeWriter.encode_mappable.Goals as goal

pub returns-clause-part : goal.returns-clause-part
returns-clause-part g c =
    let call = c.encode_mappable_after-call in
    let encodes = call.ensures.call in
    ReportsSteps-call _ c.args.self.now.had_unmappables c.args.self.now.filled call.result.written
    c.args.self.now.output.now call.new.output refl refl encodes refl call.ensures.held
    (chars_after c.args.text.now (step_chars encodes.call.done) encodes.rest _ c.utf8.text
    encodes.call.reads encodes.call.units)

pub returns-clause-all : goal.returns-clause-all
returns-clause-all g c =
    λ at_end.
    let call = c.encode_mappable_after-call in
    let encodes = call.ensures.call in
    chars_after c.args.text.now (step_chars encodes.call.done) encodes.rest _ c.utf8.text
    encodes.call.reads encodes.call.units
    ∙ none_left call.result.result at_end refl refl encodes

pub returns-clause-filled : goal.returns-clause-filled
returns-clause-filled g c =
    let call = c.encode_mappable_after-call in
    let encodes = call.ensures.call in
    bytes_left_reported c.args.self.now.encoder call.new.encoder c.args.self.now.filled
    call.result.written call.new.output encodes refl call.ensures.written
    (chars_after c.args.text.now (step_chars encodes.call.done) encodes.rest _ c.utf8.text
    encodes.call.reads encodes.call.units)
