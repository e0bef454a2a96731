-- A codec that goes on from one state to another leaves the remainder of the second.
use Rattle.std.proofs.Common.{◌≡◌, ℕ, ◌+◌, ◌<◌, ◌≤◌, suc, Bool, true, List, [], ◌∷◌, ◌++◌, length, take, drop}
use Rattle.std.proofs.Common.{get_or, refl, ap, ◌∙◌, sym, arith, append_assoc, inl, inr, drop-cons}
use Rattle.std.proofs.Math.ListN.{drop_of_length-le}
use Rattle.std.proofs.lemmas.Bool.{cases_lt}
use Rattle.std.proofs.lemmas.List.{take-append-drop, take_more}
use Rattle.enc_decoder.specs.Sequence.{Sequence, sequence_bytes, set_after}
use Rattle.enc_decoder.specs.Remainder.{AreBytes, IsUndetermined}
use Rattle.enc_decoder.specs.CodecState.{CodecState, remainder_of}
use Rattle.enc_decoder.specs.CodecLaw.{MayFollowRead}
use Rattle.enc_decoder.proofs.StageLemmas.{stage_at}
use Rattle.enc_decoder.proofs.SegmentationLemmas as segmentation
use Rattle.enc_decoder.proofs.ByteLemmas.{bytes-drop, determines_by_more}
use Rattle.enc_decoder.proofs.StageLemmas.{Stage}
use Rattle.enc_decoder.proofs.LeavesLemmas.{Leaves}

-- the unread bytes at a stage
abbrev pub unread : Stage → List ℕ
unread stage = drop stage.read stage.src

-- From the state `v` the next n bytes lead to `w`, after these sequences. The bytes determine them,
-- or the byte or the end after those does.
pub record LeadsOn (v w : CodecState) (stage : Stage) (n : ℕ) (ss : List Sequence) : Type 0 where
  pub within : n ≤ length (unread stage)
  pub same_rule : w.rule ≡ v.rule
  pub set : w.set ≡ set_after v.set ss
  pub accounted : v.pending ++ take n (unread stage) ≡ sequence_bytes ss ++ w.pending
  pub first : (y : List ℕ) → MayFollowRead (unread stage) n stage.last y
      → (remainder_of v).sequences (take n (unread stage) ++ y) ≡ ss ++ (remainder_of w).sequences y
  pub undetermined : 0 < n → IsUndetermined (remainder_of w).sequences

-- what may follow the bytes read: a byte that is next, whatever follows it; or the unread bytes
pub byte_follows : (src : List ℕ) (read : ℕ) (last : Bool) (y : List ℕ) → read < length src
    → MayFollowRead src read last (get_or src read 0 ∷ y)
byte_follows src read last y has_next =
    record { more = λ _. (y, refl); ended = λ all_read. absurd (omega arith) }

pub rest_follows : (src : List ℕ) (read : ℕ) (last : Bool) (z : List ℕ) → (last ≡ true → z ≡ [])
    → MayFollowRead src read last (drop read src ++ z)
rest_follows src read last z ends = record {
  more = λ has_next.
      (drop (suc read) src ++ z, ap (λ x. x ++ z) (drop-cons src read 0 has_next));
  ended = λ all_read is_last. ap (λ x. x ++ z) (drop_of_length-le src all_read) ∙ ends is_last;
}

pub state_leaves : {v w : CodecState} {stage : Stage} {n : ℕ} {ss : List Sequence}
    {wrote : List ℕ} {replaced : Bool} → AreBytes stage.src → LeadsOn v w stage n ss
    → Leaves (remainder_of v) (remainder_of w) (stage_at stage n ss wrote replaced)
state_leaves {v} {w} {stage} {n} {ss} bytes leads = record {
  sure = n + 1;
  surely = omega arith;
  soon = omega arith;
  within = leads.within;
  residual = λ z ends.
      ap (remainder_of v).sequences (ap (λ x. x ++ z) (sym (take-append-drop n rest))
      ∙ append_assoc (take n rest) (drop n rest) z)
      ∙ leads.first (drop n rest ++ z) (rest_follows rest n stage.last z ends);
  goes_on = λ y first. segmentation.goes_on v w (take n rest) y ss leads.same_rule leads.set
      leads.accounted first;
  set = leads.set;
  shown = λ k is_sure within_rest. determines_by_more (remainder_of v).sequences rest (n + 1) k ss
      (bytes-drop stage.read stage.src bytes) is_sure
      (λ z _. let next = get_or rest n 0 in (
        _,
        ap (remainder_of v).sequences (ap (λ x. x ++ z) (take_more rest n 0 (omega arith))
            ∙ append_assoc (take n rest) (next ∷ []) z)
            ∙ leads.first (next ∷ z) (byte_follows rest n stage.last z (omega arith)),
      ));
  none_after = elim (cases_lt 0 n) [
    | inl some ↦ inr (segmentation.none_further v w (take n rest) ss leads.same_rule leads.set
        leads.accounted (leads.undetermined some))
    | inr none ↦ inl (omega arith)
  ];
}
  where
    rest : List ℕ
    rest = unread stage
