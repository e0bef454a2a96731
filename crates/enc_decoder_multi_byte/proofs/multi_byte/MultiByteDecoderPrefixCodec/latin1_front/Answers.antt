use Rattle.enc_decoder_multi_byte.proofs.multi_byte.MultiByteDecoderPrefixCodec.latin1_front.Goals as goal

pub returns-clause-latin1 : goal.returns-clause-latin1
returns-clause-latin1 g c k d inside =
    c.has_ascii.ensures c.if-not-has_ascii.false _ (c.ascii_valid_up_to.ensures.has k d inside)
