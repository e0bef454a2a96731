-- The bytes that determine the first sequence, for every rule.
use Rattle.std.proofs.Common.{◌≡◌, ℕ, ◌+◌, ◌≤◌, suc, List, [], ◌∷◌, ◌++◌, length, take, drop}
use Rattle.std.proofs.Common.{ap, ◌∙◌, sym, arith, subst, append-nil, append_assoc, ◌⊎◌, inl, inr}
pub use Rattle.std.proofs.lemmas.Bool.{cases_Bool as true_or_false}
use Rattle.std.proofs.lemmas.List.{length-take-le, take-take, take-append-drop}
use Rattle.enc_decoder.specs.declared.byte_codec.Kind.TheVariants.{Valid}
use Rattle.enc_decoder.specs.Sequence.{Sequence}
use Rattle.enc_decoder.specs.Segmentation.{Rule, Head, head_sequence, sequences_of}
use Rattle.enc_decoder.specs.Remainder.{IsUndetermined}
use Rattle.enc_decoder.specs.RuleLaws.{IsDeterminedWithin, IsLookahead, IsDeterminedByEnd, HasBoundedLookahead}
use Rattle.enc_decoder.specs.RuleLaws.{HasLookahead}
use Rattle.enc_decoder.proofs.ByteLemmas.{bytes-append, bytes-take, bytes-drop}
use Rattle.enc_decoder.proofs.SegmentationLemmas.{sequences_of-cons}
use Rattle.enc_decoder.proofs.EmissionLemmas.{undetermined_by}

-- the same head with whatever follows
pub determined_by_head : (rule : Rule) (set b : ℕ) (z : List ℕ) (n : ℕ) (h : Head)
    → rule set b z ≡ h
    → h.more + n ≤ length z
    → ((y : List ℕ) → rule set b (take (h.more + n) z ++ y) ≡ h) → IsDeterminedWithin rule set b z n
determined_by_head rule set b z n h is_head enough same = record {
  there = subst (λ (k : Head). k.more + n ≤ length z) (sym is_head) enough;
  same = λ y. ap (λ (k : Head). rule set b (take (k.more + n) z ++ y)) is_head ∙ same y
      ∙ sym is_head;
}

-- the bytes themselves are enough
pub looks_at_none : (rule : Rule) (set b : ℕ) (z : List ℕ) → IsDeterminedWithin rule set b z 0
    → IsLookahead rule set b z 0
looks_at_none rule set b z t = record { determined = t; least = λ a m l f. omega (arith, l) }

-- If only the end determines it, no first bytes do: with all of `more` after them it is another.
pub more_differs : (rule : Rule) (set b : ℕ) (z : List ℕ) (k : ℕ)
    (by_end : IsDeterminedByEnd rule set b z)
    → rule set b (take k z ++ (drop k z ++ by_end.more)) ≡ rule set b z → ⊥
more_differs rule set b z k by_end same = by_end.other (ap (rule set b)
    (ap (λ x. x ++ by_end.more) (sym (take-append-drop k z))
    ∙ append_assoc (take k z) (drop k z) by_end.more) ∙ same)

-- n bytes after it determine it, and after one less only the end would
pub looks_by : (rule : Rule) (set b : ℕ) (z : List ℕ) (n k : ℕ)
    → IsDeterminedWithin rule set b z (suc n)
    → k ≡ (rule set b z).more + n
    → IsDeterminedByEnd rule set b (take k z) → IsLookahead rule set b z (suc n)
looks_by rule set b z n k determined is_short by_end = record {
  determined = determined;
  least = λ are_bytes m less same.
      let short = take k z in
      let fewer = (rule set b z).more + m in
      let front : take fewer short ≡ take fewer z =
      take-take fewer k z (omega (arith, is_short, less)) in
      let rest = bytes-drop fewer short (bytes-take k z are_bytes) in
      let whole = ap (rule set b)
      (sym (take-append-drop fewer short) ∙ ap (λ w. w ++ drop fewer short) front)
      ∙ same (drop fewer short) rest in
      more_differs rule set b short fewer by_end
      (ap (λ w. rule set b (w ++ (drop fewer short ++ by_end.more))) front
      ∙ same (drop fewer short ++ by_end.more)
      (bytes-append (drop fewer short) by_end.more rest by_end.bytes) ∙ sym whole);
}

-- What the law asks of one sequence: its own bytes determine it, or it is not valid and a few more
-- bytes do.
abbrev pub IsDeterminedSoon : Rule → ℕ → ℕ → List ℕ → Type 0
IsDeterminedSoon rule set b z = IsDeterminedWithin rule set b z 0
    ⊎ (((rule set b z).kind ≡ Valid → ⊥) × HasBoundedLookahead rule set b z)

pub lookahead_by : (rule : Rule) → ((set b : ℕ) (z : List ℕ) → IsDeterminedSoon rule set b z)
    → HasLookahead rule
lookahead_by rule determined = record {
  valid = λ set b z v. elim (determined set b z) [ inl t ↦ t | inr u ↦ absurd (u.0 v) ];
  others = λ set b z. elim (determined set b z) [
    | inl t ↦ inl (0, omega arith, looks_at_none rule set b z t)
    | inr u ↦ u.1
  ];
}

-- no sequence is longer than the bytes that are there
pub within_by : (rule : Rule) → HasLookahead rule → (set b : ℕ) (z : List ℕ)
    → (rule set b z).more ≤ length z
within_by rule h set b z = elim (h.others set b z) [
  | inl t ↦ omega (arith, t.2.determined.there)
  | inr e ↦ e.within
]

pub same_by_sequence : (h k : Head) (b : ℕ) (y z : List ℕ) → h.more ≤ length y → k.more ≤ length z
    → head_sequence h b y ≡ head_sequence k b z → h ≡ k
same_by_sequence h k b y z within also same =
    let same_bytes = ap (λ (s : Sequence). s.bytes) same in
    let same_following : take h.more y ≡ take k.more z = cc in
    let same_more : h.more ≡ k.more = sym (length-take-le h.more y within)
    ∙ ap length same_following ∙ length-take-le k.more z also in
    λ i. record {
      more = same_more i;
      text = (same i).text;
      kind = (same i).kind;
      set = (same i).set;
    }

-- Bytes that only the end of the input makes a sequence determine nothing.
pub undetermined_by_end : (rule : Rule) (set b : ℕ) (z : List ℕ)
    → ((y : List ℕ) → (rule set b y).more ≤ length y)
    → IsDeterminedByEnd rule set b z → IsUndetermined (λ y. sequences_of rule set (b ∷ (z ++ y)))
undetermined_by_end rule set b z within by_end =
    undetermined_by (λ y. sequences_of rule set (b ∷ (z ++ y))) [] by_end.more _ _ _ _ tt
    by_end.bytes
    (ap (λ y. sequences_of rule set (b ∷ y)) (append-nil z) ∙ sequences_of-cons rule set b z)
    (sequences_of-cons rule set b (z ++ by_end.more))
    (λ e. by_end.other (same_by_sequence _ _ b (z ++ by_end.more) z (within (z ++ by_end.more))
    (within z) (sym e)))
