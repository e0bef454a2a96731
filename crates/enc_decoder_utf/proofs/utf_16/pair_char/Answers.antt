use Rattle.enc_decoder_utf.specs.Utf16.{pair_scalar}
use Rattle.enc_decoder_utf.proofs.Utf16Lemmas.{lead_range, trail_range, pair_in_range}
use Rattle.enc_decoder_utf.proofs.utf_16.pair_char.Goals as goal

pub overflow_sub-scalar : goal.overflow_sub-scalar
overflow_sub-scalar c = (lead_range c.args.lead c.requires.lead).0

pub overflow_sub-scalar-2 : goal.overflow_sub-scalar-2
overflow_sub-scalar-2 c = (trail_range c.args.trail c.requires.trail).0

pub unwrap-requires : goal.unwrap-requires
unfolding pair_scalar
unwrap-requires c =
    c.from_u32.ensures.succeeds
    (pair_in_range c.args.lead c.args.trail c.requires.lead c.requires.trail)
