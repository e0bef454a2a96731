use Rattle.std.proofs.Common.{◌≡◌, ℕ, ◌<◌, ◌≤◌, refl, arith, rules}
use Rattle.enc_encoder.specs.CharLaw.{unread_chars}
use Rattle.enc_encoder.proofs.LeavesLemmas.{leaves_on, writes_nothing, writes_on}
use Rattle.enc_encoder.proofs.RunLemmas.{no_more_steps}
use Rattle.enc_encoder.proofs.BegunLemmas.{begun_within}
use Rattle.enc_encoder.proofs.MachineLemmas.{units_read, no_report, step_leaves, step_writes, fewer_steps}
use Rattle.enc_encoder.proofs.MachineLemmas.{report_reads, stop_empty, stop_full, stop_report}
use Rattle.enc_encoder.proofs.machine.run_on.Goals as goal
use Rattle.enc_encoder.proofs.machine.run_on.Goals.{then-taken, else-taken}

pub loop-taken-init : goal.loop-taken-init
loop-taken-init g c = writes_nothing c.args.begun.last _ (begun_within c.requires.begun)

pub returns-in_default-clause-call : goal.returns-in_default-clause-call
returns-in_default-clause-call g c start =
    stop_empty g.C.Chars.units_of (writes_on start.writes c.loop-taken.invariant) c.requires.lawful
    start.counted c.unread.ensures c.in_default.ensures.0 c.in_default.ensures.1

pub overflow_sub-result-in-Some-report : goal.overflow_sub-result-in-Some-report
overflow_sub-result-in-Some-report g c =
    let start = c.requires.begun in
    let read = report_reads c.in-Some.ensures c.in-Some-report.is c.advance.ensures in
    let leaves = leaves_on c.loop-taken.invariant.leaves (step_leaves c.in-Some.ensures read.0) in
    (units_read g.C.Chars.units_of _ _ (leaves_on start.writes.leaves leaves).reads start.counted
    c.unread-in-Some-report.ensures).0

pub returns-in-Some-report-clause-call : goal.returns-in-Some-report-clause-call
returns-in-Some-report-clause-call g c start =
    let read = report_reads c.in-Some.ensures c.in-Some-report.is c.advance.ensures in
    stop_report g.C.Chars.units_of (writes_on start.writes c.loop-taken.invariant)
    c.requires.lawful (step_leaves c.in-Some.ensures read.0) start.counted
    c.unread-in-Some-report.ensures c.in-Some-report.is
    (c.in-Some.ensures.reports _ c.in-Some-report.is).1 read.1

pub overflow_sub-result-then-not-put : goal.overflow_sub-result-then-not-put
overflow_sub-result-then-not-put g c =
    let start = c.requires.begun in
    (units_read g.C.Chars.units_of _ _
    (leaves_on start.writes.leaves c.loop-taken.invariant.leaves).reads start.counted
    c.unread-then-not-put.ensures).0

pub returns-then-not-put-clause-call : goal.returns-then-not-put-clause-call
returns-then-not-put-clause-call g c start =
    rw (c.put.ensures.unchanged c.if-not-put.true)
    (stop_full g.C.Chars.units_of (writes_on start.writes c.loop-taken.invariant)
    c.requires.lawful (step_leaves c.in-Some.ensures refl) start.counted
    c.unread-then-not-put.ensures (no_report _ c.in_default-report.not-Some)
    (c.put.ensures.full c.if-not-put.true))

pub overflow_add-written-in-loop-taken : goal.overflow_add-written-in-loop-taken
overflow_add-written-in-loop-taken g c =
    let fits = (c.write_run-written.ensures c.args.begun.last _ refl).adds.fits in
    search rules

lt_le : (a b k : ℕ) → a ≤ b → b < k → a < k
lt_le a b k l h = omega arith

pub loop-taken-smaller : goal.loop-taken-smaller
loop-taken-smaller g c =
    let left : g.C.Chars.rest c.if-taken.src ≡ unread_chars c.in-Some.taken.reads
    (g.C.Chars.rest c.loop-taken.src) = elim c.if-taken.branch [
      | then-taken w ↦ rw (w.src-is, w.if-taken.true) w.advance-then-taken.ensures
      | else-taken w ↦ rw (w.src-is, w.if-taken.false) refl
    ] in
    lt_le _ _ _ (no_more_steps (c.write_run-written.ensures c.args.begun.last _ refl))
    (fewer_steps c.in-Some.ensures left)

pub loop-taken-preserved : goal.loop-taken-preserved
loop-taken-preserved g c =
    let left : g.C.Chars.rest c.if-taken.src ≡ unread_chars c.in-Some.taken.reads
    (g.C.Chars.rest c.loop-taken.src) = elim c.if-taken.branch [
      | then-taken w ↦ rw (w.src-is, w.if-taken.true) w.advance-then-taken.ensures
      | else-taken w ↦ rw (w.src-is, w.if-taken.false) refl
    ] in
    let put = c.put.ensures in
    let one = step_writes c.in-Some.ensures left (no_report _ c.in_default-report.not-Some)
    put.count (put.fits c.if-not-put.false) (put.put c.if-not-put.false) in
    writes_on c.loop-taken.invariant
    (writes_on one (c.write_run-written.ensures c.args.begun.last _ refl))
