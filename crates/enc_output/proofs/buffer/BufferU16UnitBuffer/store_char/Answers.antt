use Rattle.std.proofs.Common.{arith}
use Rattle.std.proofs.Common.{◌∙◌, ap, length}
use Rattle.enc_utf8.proofs.PutLemmas.{put_part}
use Rattle.enc_utf8.proofs.UnitsLemmas.{two_units}
use Rattle.enc_output.proofs.GatherLemmas.{part_put}
use Rattle.enc_output.proofs.buffer.BufferU16UnitBuffer.store_char.Goals as goal

pub returns-clause-written : goal.returns-clause-written
returns-clause-written c =
    let slice = c.args.self.now in
    let width = c.len_utf16-width.ensures.surrogate_pair (omega arith) in
    let two = ap length (two_units c.args.c (omega arith)) in
    part_put slice.units.ghost_name
    (put_part slice.len c.len_utf16-width.result slice.units.now
    (c.copy_from_slice.ensures.after ∙ c.encode_utf16-text.ensures.value)
    (omega (arith, two, width)) (omega (arith, width)))
