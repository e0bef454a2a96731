use Rattle.std.proofs.Common.{arith, refl, rules}
use Rattle.enc_output.proofs.PiecesLemmas.{then_rest, puts_gathered}
use Rattle.enc_output.proofs.utf8_slice.Utf8Slice.append_turns.Goals as goal

pub returns-then-written-buffer : goal.returns-then-written-buffer
returns-then-written-buffer g c =
    let appended = c.append.ensures in
    then_rest c.split_at.ensures.back c.loop-gathered.invariant
    (puts_gathered (appended.written c.if-not-append.false)
    (omega (arith, appended.fits c.if-not-append.false)) c.gather-read.ensures
    (rw c.new-gathered.ensures.len refl) (search rules))

pub loop-gathered-preserved : goal.loop-gathered-preserved
loop-gathered-preserved g c =
    let appended = c.append.ensures in
    then_rest c.split_at.ensures.back c.loop-gathered.invariant
    (puts_gathered (appended.written c.if-not-append.false)
    (omega (arith, appended.fits c.if-not-append.false)) c.gather-read.ensures
    (rw c.new-gathered.ensures.len refl) (search rules))

pub loop-gathered-preserved-then-begins_as_ascii : goal.loop-gathered-preserved-then-begins_as_ascii
loop-gathered-preserved-then-begins_as_ascii g c =
    let appended = c.append.ensures in
    then_rest c.split_at-in-loop-gathered.ensures.back
    (then_rest c.split_at.ensures.back c.loop-gathered.invariant
    (puts_gathered (appended.written c.if-not-append.false)
    (omega (arith, appended.fits c.if-not-append.false)) c.gather-read.ensures
    (rw c.new-gathered.ensures.len refl) (search rules)))
    c.append_ascii_of-at.ensures
