use Rattle.enc_encode.proofs.variant.VariantEncoderRawEncoder.byte_lengths.Goals as goal

pub returns-in-Gb18030-clause-enough : goal.returns-in-Gb18030-clause-enough
returns-in-Gb18030-clause-enough c = rw c.in-Gb18030.is c.byte_lengths-in-Gb18030.ensures.enough
