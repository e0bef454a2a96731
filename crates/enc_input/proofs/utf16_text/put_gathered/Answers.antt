use Rattle.std.proofs.Common.{◌≡◌, ◌+◌, ◌≤◌, arith, length, take}
use Rattle.enc_utf8.proofs.LengthLemmas.{lengths}
use Rattle.enc_utf8.proofs.PutLemmas.{put_part}
use Rattle.enc_input.proofs.Utf16TextLemmas.{writes_text}
use Rattle.enc_input.proofs.WriteLoopLemmas.{written_then}
use Rattle.enc_input.proofs.utf16_text.put_gathered.Goals as goal

pub parts-preserved : goal.parts-preserved
parts-preserved g c =
    let gathered = c.gather_text-len.ensures in
    let end = c.parts.end in
    let count = c.gather_text-len.result.1 in
    let part = take count c.gather_text-len.new.buffer in
    let long : count ≡ length part = omega (arith, gathered.bound, lengths) in
    let room : end + count ≤ length c.parts.dst =
    omega (arith, gathered.room, c.parts.invariant.room) in
    written_then c.parts.invariant (writes_text c.requires.utf8 gathered.text
    (put_part end count c.parts.dst c.copy_from_slice.ensures.after long room))
