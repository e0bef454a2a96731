use Rattle.std.proofs.Common.{arith}
use Rattle.enc_decoder_iso_2022_jp.proofs.runs.InJis0208PairPieces.word_at.Goals as goal

pub word-requires : goal.word-requires
word-requires c = record { place = c.requires.place.1.within }

pub returns : goal.returns
returns c some bytes at =
    let is_word = c.word.ensures some in
    record {
      char = is_word.c;
      scalar = is_word.utf8.scalar;
      means = at.char is_word.c is_word.is;
      bound = omega (arith, is_word.utf8.bound);
      utf8 = is_word.utf8.bytes;
    }
