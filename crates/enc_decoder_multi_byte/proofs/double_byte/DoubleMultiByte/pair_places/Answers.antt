use Rattle.std.proofs.Common.{ap, get_or}
use Rattle.enc_index.proofs.PlaceLemmas.{places_of}
use Rattle.enc_decoder_multi_byte.specs.DoubleByte.{first_prefix, trail_prefix}
use Rattle.enc_decoder_multi_byte.proofs.double_byte.DoubleMultiByte.pair_places.Goals as goal

pub returns : goal.returns
returns g c i l = places_of (c.pair_places.ensures i l) (λ char pair. record {
  first = ap (λ t. first_prefix t (g.D.DoubleByte.singles (get_or c.args.first i 0))) pair.0;
  both = ap (trail_prefix 1 (get_or c.args.second i 0)) pair.1;
})
