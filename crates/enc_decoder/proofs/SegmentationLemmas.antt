-- How a segmentation goes on, and that there is one.
use Rattle.std.proofs.Common.{◌≡◌, ℕ, zero, suc, List, [], ◌∷◌, ◌++◌, take, drop, refl, ap, ◌∙◌, sym, append_assoc}
use Rattle.std.proofs.lemmas.List.{append_cancel_left, take-append-drop}
use Rattle.enc_decoder.specs.Sequence.{Sequence, sequence_bytes, set_after}
use Rattle.enc_decoder.specs.Segmentation.{Rule, Head, head_sequence, sequences_after, sequences_of, IsSegmentation}
use Rattle.enc_decoder.specs.Remainder.{AreFirstSequences, Determines, IsUndetermined}
use Rattle.enc_decoder.specs.CodecState.{CodecState, remainder_of}
use Rattle.enc_decoder.proofs.DeterminedLemmas.{begins_after, determines_fewer}

-- the sequences after k bytes are those of the rest
pub sequences_after-drop : (rule : Rule) (set k : ℕ) (z : List ℕ)
    → sequences_after rule set k z ≡ sequences_of rule set (drop k z)
unfolding sequences_after
sequences_after-drop rule set zero z = refl
sequences_after-drop rule set (suc k) [] = refl
sequences_after-drop rule set (suc k) (b ∷ z) = sequences_after-drop rule set k z

-- the sequence at the front, and those of the rest
pub sequences_of-cons : (rule : Rule) (set b : ℕ) (z : List ℕ)
    → sequences_of rule set (b ∷ z) ≡ head_sequence (rule set b z) b z
    ∷ sequences_of rule (rule set b z).set (drop (rule set b z).more z)
unfolding sequences_after
sequences_of-cons rule set b z =
    ap (λ ss. head_sequence (rule set b z) b z ∷ ss)
    (sequences_after-drop rule (rule set b z).set (rule set b z).more z)

-- the same by what stands first
pub sequences_of-head : (rule : Rule) (set b : ℕ) (z : List ℕ) (h : Head) → rule set b z ≡ h
    → sequences_of rule set (b ∷ z) ≡ head_sequence h b z ∷ sequences_of rule h.set (drop h.more z)
sequences_of-head rule set b z h e =
    sequences_of-cons rule set b z
    ∙ ap (λ (f : Head). head_sequence f b z ∷ sequences_of rule f.set (drop f.more z)) e

pub sequences_of-nil : (rule : Rule) (set : ℕ) → sequences_of rule set [] ≡ []
unfolding sequences_after
sequences_of-nil rule set = refl

pub first_of : (s t : Sequence) (ss ts : List Sequence) → s ∷ ss ≡ t ∷ ts → s ≡ t
first_of s t ss ts e = cc

pub rest_of : (s t : Sequence) (ss ts : List Sequence) → s ∷ ss ≡ t ∷ ts → ss ≡ ts
rest_of s t ss ts e = cc

-- the sequences after the first ones are the segmentation of the bytes after them
pub sequences_after-first : (rule : Rule) (set : ℕ) (z w : List ℕ) (ss rest : List Sequence)
    → sequences_of rule set z ≡ ss ++ rest → z ≡ sequence_bytes ss ++ w
    → rest ≡ sequences_of rule (set_after set ss) w
sequences_after-first rule set z w [] rest whole bytes_are = sym whole
    ∙ ap (sequences_of rule set) bytes_are
sequences_after-first rule set [] w (s ∷ ss) rest whole bytes_are =
    absurd (let none_is_one = sym (sequences_of-nil rule set) ∙ whole in cc)
sequences_after-first rule set (b ∷ z) w (s ∷ ss) rest whole bytes_are =
    let head : Head = rule set b z in
    let parts = sym (sequences_of-cons rule set b z) ∙ whole in
    let same : head_sequence head b z ≡ s = first_of _ _ _ _ parts in
    let following_bytes : drop head.more z ≡ sequence_bytes ss ++ w =
    append_cancel_left (b ∷ take head.more z) _ _
    (ap (λ x. b ∷ x) (take-append-drop head.more z) ∙ bytes_are
    ∙ ap (λ (t : Sequence). (t.bytes ++ sequence_bytes ss) ++ w) (sym same)
    ∙ append_assoc (b ∷ take head.more z) (sequence_bytes ss) w) in
    sequences_after-first rule head.set (drop head.more z) w ss rest (rest_of _ _ _ _ parts)
    following_bytes
    ∙ ap (λ (t : Sequence). sequences_of rule (set_after t.set ss) w) same

-- once the sequences done are known to come first, the state after them determines those still to
-- come
pub goes_on : (v w : CodecState) (x y : List ℕ) (done : List Sequence) → w.rule ≡ v.rule
    → w.set ≡ set_after v.set done → v.pending ++ x ≡ sequence_bytes done ++ w.pending
    → AreFirstSequences done ((remainder_of v).sequences (x ++ y))
    → (remainder_of v).sequences (x ++ y) ≡ done ++ (remainder_of w).sequences y
goes_on v w x y done same_rule set_is parts first =
    rw (same_rule, set_is) (first.1 ∙ ap (λ ss. done ++ ss)
    (sequences_after-first v.rule v.set (v.pending ++ (x ++ y)) (w.pending ++ y) done first.0
    first.1 (rw (← append_assoc v.pending x, parts, append_assoc (sequence_bytes done)) refl)))

-- the bytes before determine no more than the sequences done, if none is determined after them
pub none_further : (v w : CodecState) (x : List ℕ) (done : List Sequence) → w.rule ≡ v.rule
    → w.set ≡ set_after v.set done → v.pending ++ x ≡ sequence_bytes done ++ w.pending
    → IsUndetermined (remainder_of w).sequences
    → (s : Sequence) → Determines (remainder_of v).sequences x (done ++ s ∷ []) → ⊥
none_further v w x done same_rule set_is parts undetermined s determines =
    undetermined s (λ z are_bytes.
    let done_first = determines_fewer (remainder_of v).sequences x done (s ∷ []) determines z
    are_bytes in
    begins_after done (s ∷ []) ((remainder_of w).sequences z) ((remainder_of v).sequences (x ++ z))
    (goes_on v w x z done same_rule set_is parts done_first) (determines z are_bytes))

-- the sequences, joined, are the bytes

joined_after : (rule : Rule) (set k : ℕ) (z : List ℕ)
    → sequence_bytes (sequences_after rule set k z) ≡ drop k z
unfolding sequences_after
joined_after rule set zero [] = refl
joined_after rule set (suc k) [] = refl
joined_after rule set zero (b ∷ z) =
    ap (λ x. b ∷ (take (rule set b z).more z ++ x))
    (joined_after rule (rule set b z).set (rule set b z).more z)
    ∙ ap (λ x. b ∷ x) (take-append-drop (rule set b z).more z)
joined_after rule set (suc k) (b ∷ z) = joined_after rule set k z

pub all_bytes : (rule : Rule) (set : ℕ) (z : List ℕ) → sequence_bytes (sequences_of rule set z) ≡ z
all_bytes rule set z = joined_after rule set 0 z

-- and they are the one segmentation of them

pub is_one : (rule : Rule) (set : ℕ) (z : List ℕ) (ss : List Sequence)
    → IsSegmentation rule set z ss → ss ≡ sequences_of rule set z
is_one rule set z [] segmented =
    sym (ap (sequences_of rule set) segmented ∙ sequences_of-nil rule set)
is_one rule set [] (s ∷ ss) segmented = absurd segmented
is_one rule set (b ∷ z) (s ∷ ss) segmented =
    ap (λ t. t ∷ ss) segmented.0 ∙ ap (λ ts. head_sequence (rule set b z) b z ∷ ts)
    (is_one rule (rule set b z).set (drop (rule set b z).more z) ss segmented.1)
    ∙ sym (sequences_of-cons rule set b z)

rest_is_segmentation : (rule : Rule) (set k : ℕ) (z : List ℕ)
    → IsSegmentation rule set (drop k z) (sequences_after rule set k z)
unfolding sequences_after
rest_is_segmentation rule set zero [] = refl
rest_is_segmentation rule set (suc k) [] = refl
rest_is_segmentation rule set zero (b ∷ z) =
    (refl, rest_is_segmentation rule (rule set b z).set (rule set b z).more z)
rest_is_segmentation rule set (suc k) (b ∷ z) = rest_is_segmentation rule set k z

pub sequences_are_segmentation : (rule : Rule) (set : ℕ) (z : List ℕ)
    → IsSegmentation rule set z (sequences_of rule set z)
sequences_are_segmentation rule set z = rest_is_segmentation rule set 0 z
