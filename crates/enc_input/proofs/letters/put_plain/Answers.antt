use Rattle.std.proofs.Common.{◌≡◌, ◌+◌, ◌∙◌, ap, arith, drop, length}
use Rattle.std.proofs.lemmas.List.{get_or-drop, take_all}
use Rattle.enc_utf8.proofs.LengthLemmas.{lengths}
use Rattle.enc_utf8.proofs.PutLemmas.{put_lanes}
use Rattle.enc_input.proofs.LetterLemmas.{plain_written}
use Rattle.enc_input.proofs.MappingLemmas.{same_length}
use Rattle.enc_input.proofs.WriteLoopLemmas.{writes_none, writes_then}
use Rattle.enc_input.proofs.letters.put_plain.Goals as goal

pub loop-len-init : goal.loop-len-init
loop-len-init g c = (omega arith, writes_none (omega arith) tt)

pub loop-len-preserved : goal.loop-len-preserved
loop-len-preserved g c =
    let len = c.loop-len.len in
    let src = drop len c.args.src.now in
    let dst = c.loop-len.dst in
    let bytes = c.bytes_of_plain.result in
    let writes = c.loop-len.invariant.1 in
    let fits = same_length writes.writes in
    let long : length bytes ≡ 16 = omega (arith, lengths, ap length c.bytes_of_plain.ensures) in
    let put = put_lanes 16 (c.args.at + len) dst bytes (omega (arith, fits)) long in
    let keeps = c.keeps_ascii.ensures c.if-not-keeps_ascii.false in (
      omega arith,
      writes_then writes (plain_written c.letters-letters.result c.letters-letters.ensures keeps
          (omega (arith, c.letters-letters.type_inv)) {src = src} (omega (arith, lengths))
          (λ k. rw (get_or-drop len c.args.src.now k 0) (c.type_inv.src (len + k)).fits)
          (c.are_plain.ensures c.if-not-are_plain.false)
          (take_all 16 bytes (omega (arith, long)) ∙ c.bytes_of_plain.ensures) put),
    )
