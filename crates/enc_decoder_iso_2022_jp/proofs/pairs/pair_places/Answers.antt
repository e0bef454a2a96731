use Rattle.std.proofs.Common.{ℕ, get_or}
use Rattle.std.proofs.lemmas.Simd.{get_or-replicate}
use Rattle.enc_decoder_iso_2022_jp.proofs.PairPlaces.{bytes_place}
use Rattle.enc_decoder_iso_2022_jp.proofs.pairs.pair_places.Goals as goal

pub returns : goal.returns
returns c i l =
    bytes_place (get_or c.args.first i 0) (get_or c.args.second i 0)
    (rw (get_or-replicate {A = ℕ} 16 i 120 0 l) at (c.numbers_in-rows.ensures i l))
    (rw (get_or-replicate {A = ℕ} 16 i 94 0 l) at (c.numbers_in-columns.ensures i l))
    (c.places_at.ensures i l)
