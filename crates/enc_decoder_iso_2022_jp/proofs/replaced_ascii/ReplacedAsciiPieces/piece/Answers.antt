use Rattle.std.proofs.Common.{sym}
use Rattle.enc_decoder_iso_2022_jp.proofs.Iso2022JpReplaced.{replaced_at}
use Rattle.enc_decoder_iso_2022_jp.proofs.replaced_ascii.ReplacedAsciiPieces.piece.Goals as goal

pub returns-clause-means : goal.returns-clause-means
returns-clause-means c =
    replaced_at c.args.src.now c.args.at _ c.requires.within (sym c.in_ok-character.ensures)
