use Rattle.std.proofs.Common.{arith}
use Rattle.enc_decoder.proofs.PrefixRule.{prefixes_have_bytes}
use Rattle.enc_decoder_multi_byte.proofs.multi_byte.MultiByteDecoderPrefixCodec.has_bytes.Goals as goal

pub returns-clause-some : goal.returns-clause-some
returns-clause-some g c _ =
    prefixes_have_bytes g.E.MultiByte.prefix 0x61 _ (c.laws.ensures.ascii 0x61 (omega arith))
