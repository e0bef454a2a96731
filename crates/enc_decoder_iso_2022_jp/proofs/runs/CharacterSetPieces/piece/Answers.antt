use Rattle.std.proofs.Common.{sym}
use Rattle.enc_decoder.proofs.PieceLemmas.{one_of, same_piece}
use Rattle.enc_decoder_iso_2022_jp.proofs.Iso2022JpPieces.{alone_piece}
use Rattle.enc_decoder_iso_2022_jp.proofs.runs.CharacterSetPieces.piece.Goals as goal

pub returns-clause-means : goal.returns-clause-means
returns-clause-means c =
    same_piece _ _ _ _ _ (one_of c.args.src.now c.args.at c.requires.within)
    (alone_piece c.args.self _ _ (sym c.in_ok-character.ensures))
