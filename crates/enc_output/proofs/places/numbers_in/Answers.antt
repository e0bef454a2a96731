use Rattle.std.proofs.Common.{◌∙◌, ◌+◌, ◌-◌, ◌%◌, leb, w8}
use Rattle.enc_utf8.proofs.Lanes.{own, splat, by_op, chosen, flag, lane_at}
use Rattle.enc_output.proofs.PlaceLanes.{number_is}
use Rattle.enc_utf8.proofs.ByteLanes.{lane_bound}
use Rattle.enc_output.proofs.places.numbers_in.Goals as goal

pub returns : goal.returns
returns c k below =
    let args = c.args in
    let offsets = by_op (own args.bytes c.fits-bytes.0) (splat args.first)
    (λ a b. (a + (256 - b)) % 256) in
    let within = by_op offsets (splat (args.last - args.first)) (flag w8 leb) in
    let numbers = by_op offsets (splat args.number) (λ a b. (a + b) % 256) in
    lane_at (chosen w8 _ within numbers (own args.others c.fits-others.0)) k below
    ∙ number_is args.first args.last args.number _ _ c.requires.range c.ranges.last.fits
    c.requires.numbers (lane_bound args.bytes k c.fits-bytes below)
