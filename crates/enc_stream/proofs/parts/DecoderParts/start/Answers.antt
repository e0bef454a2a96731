use Rattle.enc_stream.proofs.StartLemmas.{is_fresh, holds_at_start}
use Rattle.enc_stream.proofs.parts.DecoderParts.start.Goals as goal

pub returns-clause-state : goal.returns-clause-state
returns-clause-state c =
    is_fresh c.args.handling c.args.encoding c.first_life.ensures c.new_decoder.ensures.state

pub returns-clause-parts : goal.returns-clause-parts
returns-clause-parts c =
    holds_at_start c.args.handling c.args.encoding c.first_life.ensures c.codec_of.ensures
    c.new_decoder.ensures.state c.new_decoder.ensures.lengths
