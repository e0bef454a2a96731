-- Of the held bytes EF BB, which are no byte order mark, the codec does EF: BB stays pending.
use Rattle.std.proofs.Common.{◌≡◌, ℕ, ◌+◌, ◌<◌, ◌≤◌, zero, suc, true, false, ◌&&◌, eqb, List, [], ◌∷◌}
use Rattle.std.proofs.Common.{◌++◌, length, take, drop, refl, ap, ◌∙◌, sym, arith, append_assoc}
use Rattle.std.proofs.lemmas.Bool.{false≢true}
use Rattle.std.proofs.lemmas.Bool.Decides.{nat_tests}
use Rattle.std.proofs.lemmas.List.{take-append-drop}
use Rattle.std.proofs.Math.Seq.{take-append_seam, drop-append_seam}
use Rattle.enc_stream.specs.declared.life_cycle.LifeCycle.{LifeCycle}
use Rattle.enc_stream.specs.declared.life_cycle.LifeCycle.TheVariants.{SeenUtf8Second}
use Rattle.enc_stream.specs.declared.life_cycle.LifeCycle.TheVariants.{ConvertingWithPendingBb}
use Rattle.enc_decoder.specs.Sequence.{Sequence, sequence_bytes}
use Rattle.enc_decoder.specs.CodecState.{CodecState}
use Rattle.enc_stream.specs.LifeCycle.{awaits_mark, held_mark_bytes, unread_bytes, HeldBytesMatchCodec}
use Rattle.enc_decoder.proofs.JoinedCallLemmas.{no_bytes}
use Rattle.enc_stream.proofs.LifeCycleLemmas.{second_if_two, held_are_few}
use Rattle.enc_stream.proofs.PendingBytesLemmas.{none_unread}
use Rattle.enc_utf8.proofs.LengthLemmas.{lengths}

two_bytes : (life : LifeCycle) (n : ℕ) → length (unread_bytes life n) ≡ 2
    → (life ≡ SeenUtf8Second) × (n ≡ 0)
two_bytes life zero two = (second_if_two life two, refl)
two_bytes life (suc n) two =
    absurd (omega (arith, two, ap length (none_unread life (suc n) (omega arith))))

one_and_rest : (front rest bytes : List ℕ) (b : ℕ) → front ++ rest ≡ b ∷ bytes → length front ≡ 1
    → (front ≡ b ∷ []) × (rest ≡ bytes)
one_and_rest front rest bytes b same one = (
  sym (take-append_seam front rest) ∙ rw (one, same) refl,
  sym (drop-append_seam front rest) ∙ rw (one, same) refl,
)

-- of EF BB and the bytes after them the codec reads `total`, does EF and leaves BB
pub record LeavesBb (v w : CodecState) (src : List ℕ) (done : List Sequence) (total : ℕ)
    (life : LifeCycle) : Type 0 where
  pub state : life ≡ SeenUtf8Second
  pub unread : unread_bytes life (length v.pending) ≡ 0xEF ∷ 0xBB ∷ []
  pub none : v.pending ≡ []
  pub done_bytes : sequence_bytes done ≡ 0xEF ∷ []
  pub bb_left : w.pending ++ drop total (unread_bytes life (length v.pending) ++ src) ≡ 0xBB ∷ src

pub leaves_bb : {v w : CodecState} {src : List ℕ} {done : List Sequence} {total : ℕ}
    {life : LifeCycle}
    → v.pending ++ take total (unread_bytes life (length v.pending) ++ src)
    ≡ sequence_bytes done ++ w.pending
    → length (unread_bytes life (length v.pending)) ≡ 2
    → (total ≤ 2) × (total ≡ length w.pending + 1) → LeavesBb v w src done total life
leaves_bb {v} {w} {src} {done} {total} {life} accounted two most =
    let held : List ℕ = unread_bytes life (length v.pending) in
    let two_held_bytes = two_bytes life (length v.pending) two in
    let none : v.pending ≡ [] = no_bytes v.pending two_held_bytes.1 in
    let unread : held ≡ 0xEF ∷ 0xBB ∷ [] = rw (none, two_held_bytes.0) refl in
    let one_done : length (sequence_bytes done) ≡ 1 =
    omega (arith, lengths, ap length accounted, ap length none, two, most.0, most.1) in
    let whole : sequence_bytes done ++ (w.pending ++ drop total (held ++ src)) ≡ 0xEF
    ∷ (0xBB ∷ src) =
    sym (append_assoc (sequence_bytes done) w.pending (drop total (held ++ src)))
    ∙ ap (λ x. x ++ drop total (held ++ src))
    (sym accounted ∙ ap (λ x. x ++ take total (held ++ src)) none)
    ∙ take-append-drop total (held ++ src) ∙ ap (λ x. x ++ src) unread in
    let parts = one_and_rest (sequence_bytes done) (w.pending ++ drop total (held ++ src))
    (0xBB ∷ src) 0xEF whole one_done in
    record {
      state = two_held_bytes.0;
      unread = unread;
      none = none;
      done_bytes = parts.0;
      bb_left = parts.1;
    }

-- the codec then has BB, or hasn't read it
pub holds_bb : {v w : CodecState} {src : List ℕ} {done : List Sequence} {total : ℕ}
    {life : LifeCycle}
    → LeavesBb v w src done total life → length w.pending ≤ 1
    → HeldBytesMatchCodec ConvertingWithPendingBb w
holds_bb {v} {w} {src} {total = total} {life} leaves few = record {
  unread = λ awaits. absurd (false≢true awaits);
  held = by_pending w.pending (drop total (unread_bytes life (length v.pending) ++ src))
      leaves.bb_left few;
}
  where
    by_pending : (pending rest : List ℕ) → pending ++ rest ≡ 0xBB ∷ src → length pending ≤ 1
        → 0xBB ∷ [] ≡ pending ++ unread_bytes ConvertingWithPendingBb (length pending)
    by_pending [] rest same few = refl
    by_pending (x ∷ []) rest same few = sym (one_and_rest (x ∷ []) rest src 0xBB same refl).0
    by_pending (x ∷ y ∷ pending) rest same few = absurd (omega arith)

-- Fewer bytes than are held are none, unless BB of EF BB is.
pub none_of_held : (life : LifeCycle) (v : CodecState) → HeldBytesMatchCodec life v → (now : ℕ)
    → now < length (held_mark_bytes life)
    → (length (unread_bytes life (length v.pending)) ≡ 2 → now ≡ 1 → ⊥) → now ≡ 0
none_of_held life v holds zero fewer no_bb = refl
none_of_held life v holds (suc zero) fewer no_bb =
    let second = second_if_two life (omega (arith, fewer, held_are_few life)) in
    let none = (holds.unread (ap awaits_mark second)).1 in
    absurd (no_bb (rw (none, second) refl) refl)
none_of_held life v holds (suc (suc now)) fewer no_bb =
    absurd (omega (arith, fewer, held_are_few life))

-- The two tests of the code, as facts.

pub both_equal : (read x y : ℕ) → (eqb read 0 && eqb x y) ≡ true → (read ≡ 0) × (x ≡ y)
both_equal read x y equal = (grind (arith, nat_tests), grind (arith, nat_tests))

pub not_both_equal : (read x y : ℕ) → (eqb read 0 && eqb x y) ≡ false → read ≡ 0 → x ≡ y → ⊥
not_both_equal read x y differ none_read same = grind (arith, nat_tests)

pub all_equal : (read x y m n : ℕ) → (eqb read 0 && (eqb x m && eqb y n)) ≡ true
    → (read ≡ 0) × (x ≡ m) × (y ≡ n)
all_equal read x y m n equal =
    (grind (arith, nat_tests), grind (arith, nat_tests), grind (arith, nat_tests))

pub not_all_equal : (read x y m n : ℕ) → (eqb read 0 && (eqb x m && eqb y n)) ≡ false
    → read ≡ 0 → x ≡ m → y ≡ n → ⊥
not_all_equal read x y m n differ none_read same also = grind (arith, nat_tests)
