use Rattle.std.proofs.Common.{refl}
use Rattle.enc_input.proofs.BlendLemmas.{stored_front}
use Rattle.enc_input.proofs.utf8_bytes.put_wide_lanes.Goals as goal

pub returns : goal.returns
returns c = stored_front 64 c.args.at c.args.len _ c.args.dst.now c.args.lanes refl refl
    c.requires.room c.requires.bound c.fits-lanes.0
