use Rattle.enc_decoder_iso_2022_jp.proofs.PairPlaces.{place_means}
use Rattle.enc_decoder_iso_2022_jp.proofs.runs.InJis0208PairPieces.places.Goals as goal

pub returns : goal.returns
returns c i l = place_means _ _ i _ l (c.pair_places.ensures i l)
