use Rattle.std.proofs.Common.{◌≡◌, ◌+◌, ◌-◌, ◌≤◌, ◌++◌, sym, ◌∙◌, ap, arith, length}
use Rattle.enc_decoder.proofs.ByteLemmas.{bytes_of_slice}
use Rattle.enc_stream.proofs.HeldMarkLemmas.{ends, stays, goes_on, stays_bb}
use Rattle.enc_stream.proofs.PendingBbLemmas.{leaves_bb, holds_bb, both_equal, not_both_equal, all_equal}
use Rattle.enc_stream.proofs.PendingBbLemmas.{not_all_equal}
use Rattle.std.proofs.Common.{ℕ, List}
use Rattle.enc_stream.proofs.UnmarkedTextLemmas.{HeldRead, reads_text}
use Rattle.enc_utf8.proofs.LengthLemmas.{lengths}
use Rattle.enc_stream.proofs.text.decode_text.Goals as goal

abbrev held_read : {held src : List ℕ} {total left read : ℕ} → total ≤ length (held ++ src)
    → (given : List ℕ) → length given ≡ length held → left ≡ length given - total
    → read ≡ total - length given → HeldRead held src
held_read {total = total} {left} {read} within given same left_is read_is = record {
  total = total;
  left = left;
  read = read;
  within = omega (arith, lengths, within);
  left_is = omega (arith, same, left_is);
  read_is = omega (arith, same, read_is);
}

pub returns-then-reaches_end-clause-call : goal.returns-then-reaches_end-clause-call
returns-then-reaches_end-clause-call g c = λ e same.
    let made = rw (c.unread-held.ensures, c.held.ensures.count)
    at c.decode_held_first-done.ensures.call.call in
    let held = ap length (rw c.held.ensures.count at c.unread-held.ensures) in
    rw c.shift_malformed.ensures (ends (reads_text (bytes_of_slice _ c.type_inv.src) same
    c.requires.unfinished c.requires.text c.requires.holds)
    (held_read made.call.call.within _ held c.saturating_sub-left.ensures
    c.saturating_sub-read.ensures)
    c.decode_held_first-done.ensures.call.rule made
    (sym c.reaches_end.ensures ∙ c.if-reaches_end.true))

pub returns-then-untouched-clause-call : goal.returns-then-untouched-clause-call
returns-then-untouched-clause-call g c = λ e same.
    let made = rw (c.unread-held.ensures, c.held.ensures.count)
    at c.decode_held_first-done.ensures.call.call in
    let held = ap length (rw c.held.ensures.count at c.unread-held.ensures) in
    let equal = both_equal _ _ _ c.if-untouched.true in
    rw c.shift_malformed.ensures (stays (reads_text (bytes_of_slice _ c.type_inv.src) same
    c.requires.unfinished c.requires.text c.requires.holds)
    (held_read made.call.call.within _ held c.saturating_sub-left.ensures
    c.saturating_sub-read.ensures)
    c.decode_held_first-done.ensures.call.rule made
    (sym c.reaches_end.ensures ∙ c.if-reaches_end.false) equal.0 (let u = equal.1 in
    omega (arith, c.held-2.ensures.count, c.held.ensures.count)))

pub returns-then-leaves_bb-clause-call : goal.returns-then-leaves_bb-clause-call
returns-then-leaves_bb-clause-call g c = λ e same.
    let made = rw (c.unread-held.ensures, c.held.ensures.count)
    at c.decode_held_first-done.ensures.call.call in
    let held = ap length (rw c.held.ensures.count at c.unread-held.ensures) in
    let equal = all_equal _ _ _ _ _ c.if-leaves_bb.true in
    rw c.shift_malformed.ensures (stays_bb (reads_text (bytes_of_slice _ c.type_inv.src) same
    c.requires.unfinished c.requires.text c.requires.holds)
    (held_read made.call.call.within _ held c.saturating_sub-left.ensures
    c.saturating_sub-read.ensures)
    c.decode_held_first-done.ensures.call.rule made
    (sym c.reaches_end.ensures ∙ c.if-reaches_end.false) equal.0 (sym held ∙ equal.1)
    (let u = equal.2 in
    omega (arith, c.held-2.ensures.count)))

pub returns-then-leaves_bb-clause-holds : goal.returns-then-leaves_bb-clause-holds
returns-then-leaves_bb-clause-holds g c =
    let made = rw (c.unread-held.ensures, c.held.ensures.count)
    at c.decode_held_first-done.ensures.call.call in
    let equal = all_equal _ _ _ _ _ c.if-leaves_bb.true in
    let held = ap length (rw c.held.ensures.count at c.unread-held.ensures) in
    let none_read : c.saturating_sub-read.result ≡ 0 = equal.0 in
    let one : c.held-2.result + c.saturating_sub-left.result ≡ 1 = equal.2 in
    let two : length c.unread-held.result.now ≡ 2 = equal.1 in
    let most : c.decode_held_first-done.result.read ≤ 2 =
    omega (arith, none_read, two, c.saturating_sub-read.ensures) in
    let parts : c.decode_held_first-done.result.read
    ≡ length (g.D.RawDecoder.state c.decode_held_first-done.new.codec).pending + 1 =
    omega (arith, most, two, one, c.held-2.ensures.count, c.saturating_sub-left.ensures) in
    holds_bb {v = g.D.RawDecoder.state c.args.codec.now} {done = made.call.call.done}
    {life = c.args.life.now}
    (leaves_bb made.call.accounted (sym held ∙ two) (most, parts)) (omega (arith, most, parts))

pub returns-clause-call : goal.returns-clause-call
returns-clause-call g c = λ e same.
    let made = rw (c.unread-held.ensures, c.held.ensures.count)
    at c.decode_held_first-done.ensures.call.call in
    let held = ap length (rw c.held.ensures.count at c.unread-held.ensures) in
    rw c.shift_malformed.ensures (goes_on (reads_text (bytes_of_slice _ c.type_inv.src) same
    c.requires.unfinished c.requires.text c.requires.holds)
    (held_read made.call.call.within _ held c.saturating_sub-left.ensures
    c.saturating_sub-read.ensures)
    c.decode_held_first-done.ensures.call.rule made
    (sym c.reaches_end.ensures ∙ c.if-reaches_end.false)
    (λ z n. not_both_equal _ _ _ c.if-untouched.false z
    (omega (arith, c.held-2.ensures.count, c.held.ensures.count)))
    (λ z two one. not_all_equal _ _ _ _ _ c.if-leaves_bb.false z (held ∙ two)
    (omega (arith, c.held-2.ensures.count))))
