use Rattle.enc_decoder_single_byte.proofs.OneByteLemmas.{x_user_defined_letters}
use Rattle.enc_decoder_single_byte.proofs.x_user_defined.XUserDefinedOneByte.letters_of.Goals as goal

pub returns : goal.returns
returns c = x_user_defined_letters
