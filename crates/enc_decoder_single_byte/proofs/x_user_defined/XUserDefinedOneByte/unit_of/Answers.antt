use Rattle.enc_decoder_single_byte.proofs.WordLemmas.{x_user_defined_unit}
use Rattle.enc_decoder_single_byte.proofs.x_user_defined.XUserDefinedOneByte.unit_of.Goals as goal

pub returns : goal.returns
returns c _ = x_user_defined_unit c.args.byte c.ranges.byte.fits
