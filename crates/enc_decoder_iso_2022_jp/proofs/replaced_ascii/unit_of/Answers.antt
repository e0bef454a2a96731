use Rattle.enc_decoder_iso_2022_jp.proofs.Iso2022JpReplaced.{replaced_unit}
use Rattle.enc_decoder_iso_2022_jp.proofs.replaced_ascii.unit_of.Goals as goal

pub returns-clause-is : goal.returns-clause-is
returns-clause-is c some = (replaced_unit c.args.byte c.ranges.byte.fits some).0

pub returns-clause-scalar : goal.returns-clause-scalar
returns-clause-scalar c some = (replaced_unit c.args.byte c.ranges.byte.fits some).1
