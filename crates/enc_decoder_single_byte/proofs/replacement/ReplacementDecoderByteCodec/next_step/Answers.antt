use Rattle.enc_decoder_single_byte.proofs.ReplacementLemmas.{first_acts, later_acts}
use Rattle.enc_decoder_single_byte.proofs.replacement.ReplacementDecoderByteCodec.next_step.Goals as goal

pub returns-then-self : goal.returns-then-self
returns-then-self c = rw (c.show_byte.ensures, ← c.self.view_is, c.if-self.true)
    (later_acts c.args.byte)

pub returns-else-self : goal.returns-else-self
returns-else-self c = rw (c.show_byte-else-self.ensures, ← c.self.view_is, c.if-self.false)
    (first_acts c.args.byte)
