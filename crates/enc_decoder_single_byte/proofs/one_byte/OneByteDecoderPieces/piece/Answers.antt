use Rattle.std.proofs.Common.{sym}
use Rattle.enc_decoder.proofs.PieceLemmas.{one_of, same_piece}
use Rattle.enc_decoder_single_byte.proofs.OneByteLemmas.{one_byte_piece}
use Rattle.enc_decoder_single_byte.proofs.one_byte.OneByteDecoderPieces.piece.Goals as goal

pub returns-in-Some-clause-means : goal.returns-in-Some-clause-means
returns-in-Some-clause-means g c =
    same_piece _ 0 _ _ _ (one_of c.args.src.now c.args.at c.requires.within)
    (one_byte_piece _ _ _ (sym c.in-Some.ensures))
