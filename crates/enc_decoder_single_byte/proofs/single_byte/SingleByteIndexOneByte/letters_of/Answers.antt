use Rattle.enc_decoder_single_byte.proofs.OneByteLemmas.{single_byte_letters}
use Rattle.enc_decoder_single_byte.proofs.single_byte.SingleByteIndexOneByte.letters_of.Goals as goal

pub returns : goal.returns
returns c = single_byte_letters _ _ c.letters-first.ensures
