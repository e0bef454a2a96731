use Rattle.enc_decoder.proofs.PrefixRule.{prefixes_are_lawful}
use Rattle.enc_decoder.proofs.prefix_codec.AnyRawDecoder.decode.Goals as goal

pub returns-clause-lawful : goal.returns-clause-lawful
returns-clause-lawful g c = prefixes_are_lawful _ c.laws.ensures.prefixes
