use Rattle.std.proofs.Common.{sym}
use Rattle.enc_names.proofs.CodecPropertyLemmas.{listed_ascii, listed_single_byte}
use Rattle.enc_names.proofs.laws.codecs_have_the_properties.Goals as goal

pub returns-clause-ascii_compatible : goal.returns-clause-ascii_compatible
returns-clause-ascii_compatible c = sym (listed_ascii c.args.id)

pub returns-clause-single_byte : goal.returns-clause-single_byte
returns-clause-single_byte c = sym (listed_single_byte c.args.id)
