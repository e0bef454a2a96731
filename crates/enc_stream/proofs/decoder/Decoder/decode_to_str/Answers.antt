use Rattle.std.proofs.Common.{◌∙◌, ap}
use Rattle.enc_output.specs.Rest.{without_continuations}
use Rattle.enc_utf8.proofs.UnitsLemmas.{text_utf8}
use Rattle.enc_output.proofs.OverwrittenTextLemmas.{is_text}
use Rattle.enc_stream.proofs.decoder.Decoder.decode_to_str.Goals as goal

pub returns-clause-utf8 : goal.returns-clause-utf8
returns-clause-utf8 c =
    let decoded = c.decode_to_utf8-result.ensures in
    let call = decoded.call.decodes.call in
    let cleared = c.clear_rest.ensures in
    is_text _ c.args.dst.now _ _ c.requires.utf8 call.scalars (cleared.front ∙ call.text)
    (cleared.rest ∙ ap without_continuations decoded.rest)

pub returns-clause-text : goal.returns-clause-text
returns-clause-text c = let call = c.decode_to_utf8-result.ensures.call.decodes.call in
    text_utf8 _ _ call.scalars (c.clear_rest.ensures.front ∙ call.text)
