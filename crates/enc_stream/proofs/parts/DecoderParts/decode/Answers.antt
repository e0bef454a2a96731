use Rattle.enc_stream.proofs.OutputFullLemmas.{converts_into}
use Rattle.enc_stream.proofs.LifeCycleLemmas.{holds_marks}
use Rattle.enc_stream.proofs.parts.DecoderParts.decode.Goals as goal

pub returns-then-begins_as_text-clause-call : goal.returns-then-begins_as_text-clause-call
returns-then-begins_as_text-clause-call g c =
    converts_into c.laws.ensures (holds_marks _ _ _ c.requires.parts.0.1) c.requires.unfinished
    (c.decode_plain.ensures.call c.args.self.now.encoding c.requires.parts.0.0)
