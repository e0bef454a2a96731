use Rattle.enc_decoder_iso_2022_jp.proofs.Iso2022JpPieces.{own_pieces}
use Rattle.enc_decoder_iso_2022_jp.proofs.runs.CharacterSetPieces.own_len.Goals as goal

pub returns-in-Ascii-clause-own : goal.returns-in-Ascii-clause-own
returns-in-Ascii-clause-own c =
    rw c.in-Ascii.is (own_pieces _ c.unshifted_len.ensures.ascii)
