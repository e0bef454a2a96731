use Rattle.std.proofs.Common.{ℕ, get_or}
use Rattle.std.proofs.lemmas.Simd.{get_or-replicate}
use Rattle.enc_decoder_multi_byte.proofs.Places.Big5.{place}
use Rattle.enc_decoder_multi_byte.proofs.big5.Big5DoubleByte.pair_places.Goals as goal

pub returns : goal.returns
returns c i l =
    place (get_or c.args.first i 0) (get_or c.args.second i 0)
    (rw (get_or-replicate {A = ℕ} 16 i 126 0 l) at (c.numbers_in-rows.ensures i l))
    (rw (c.numbers_in-upper.ensures i l, get_or-replicate {A = ℕ} 16 i 157 0 l)
    at (c.numbers_in-columns.ensures i l))
    (c.places_at.ensures i l)
