use Rattle.std.proofs.Common.{◌∙◌, sym, arith}
use Rattle.enc_decoder.proofs.PieceLemmas.{two_of, same_piece}
use Rattle.enc_decoder_iso_2022_jp.proofs.Iso2022JpPieces.{pair_piece}
use Rattle.enc_decoder_iso_2022_jp.proofs.runs.InJis0208Pieces.piece.Goals as goal

pub char_of_pair-requires : goal.char_of_pair-requires
char_of_pair-requires c =
    record { lead = sym c.is_jis0208_byte.ensures ∙ c.if-not-is_jis0208_byte.false }

pub returns-clause-means : goal.returns-clause-means
returns-clause-means c =
    same_piece _ _ _ _ _ (two_of c.args.src.now c.args.at (omega arith))
    (pair_piece _ _ _ (sym c.in_ok-character.ensures)
    (sym c.is_jis0208_byte.ensures ∙ c.if-not-is_jis0208_byte.false))
