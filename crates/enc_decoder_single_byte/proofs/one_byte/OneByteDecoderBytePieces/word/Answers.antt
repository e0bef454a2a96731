use Rattle.std.proofs.Common.{arith}
use Rattle.enc_decoder_single_byte.proofs.OneByteLemmas.{one_byte_piece}
use Rattle.enc_decoder_single_byte.proofs.one_byte.OneByteDecoderBytePieces.word.Goals as goal

pub returns : goal.returns
returns g c some =
    let is_word = c.word_of.ensures some in
    record {
      char = is_word.c;
      scalar = is_word.utf8.scalar;
      means = one_byte_piece _ _ _ is_word.is;
      bound = omega (arith, is_word.utf8.bound);
      utf8 = is_word.utf8.bytes;
    }
