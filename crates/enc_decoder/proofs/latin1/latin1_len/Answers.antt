use Rattle.std.proofs.Common.{arith, drop}
use Rattle.enc_utf8.proofs.LengthLemmas.{lengths, rest_is}
use Rattle.enc_decoder.proofs.Latin1Lemmas.{latin1_begins, latin1_all, latin1_ends_waiting}
use Rattle.enc_decoder.proofs.Latin1Lemmas.{latin1_ends_showing, latin1_goes_on, latin1_runs}
use Rattle.enc_decoder.proofs.latin1.latin1_len.Goals as goal

pub loop-at-init : goal.loop-at-init
loop-at-init g c = latin1_begins c.requires.none_pending

pub latin1_run-at-requires : goal.latin1_run-at-requires
latin1_run-at-requires g c = record { none_pending = c.loop-at.invariant.none_pending }

pub returns-then-at-bytes : goal.returns-then-at-bytes
returns-then-at-bytes g c =
    let ran = rw (rest_is c.loop-at.at c.args.bytes.now) at c.latin1_run-at.ensures in
    let front = latin1_runs c.latin1_run-at.result c.loop-at.invariant
    (omega (arith, ran.within, lengths)) ran.latin1 in
    latin1_all front (omega (arith, c.if-at-bytes.true))

pub returns-in_default : goal.returns-in_default
returns-in_default g c =
    let ran = rw (rest_is c.loop-at.at c.args.bytes.now) at c.latin1_run-at.ensures in
    let front = latin1_runs c.latin1_run-at.result c.loop-at.invariant
    (omega (arith, ran.within, lengths)) ran.latin1 in
    latin1_ends_waiting front (omega (arith, front.within, c.if-at-bytes.false)) _
    c.in_default.ensures

pub returns-then-not-shows_itself : goal.returns-then-not-shows_itself
returns-then-not-shows_itself g c =
    let ran = rw (rest_is c.loop-at.at c.args.bytes.now) at c.latin1_run-at.ensures in
    let front = latin1_runs c.latin1_run-at.result c.loop-at.invariant
    (omega (arith, ran.within, lengths)) ran.latin1 in
    latin1_ends_showing front (omega (arith, front.within, c.if-at-bytes.false)) _
    c.in-Emit.ensures (c.shows_itself.ensures.no c.if-not-shows_itself.true)

pub loop-at-preserved : goal.loop-at-preserved
loop-at-preserved g c =
    let itself = c.shows_itself.ensures in
    let shows = c.if-not-shows_itself.false in
    let ran = rw (rest_is c.loop-at.at c.args.bytes.now) at c.latin1_run-at.ensures in
    let front = latin1_runs c.latin1_run-at.result c.loop-at.invariant
    (omega (arith, ran.within, lengths)) ran.latin1 in
    latin1_goes_on front (omega (arith, front.within, c.if-at-bytes.false)) _ c.in-Emit.ensures
    (itself.kind shows) (itself.text shows)

pub returns : goal.returns
returns g c = latin1_all c.loop-at.invariant c.loop-at-test.false
