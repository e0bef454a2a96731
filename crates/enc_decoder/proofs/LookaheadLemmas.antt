-- A prefix determines the first sequences exactly if it contains them and their lookahead.
use Rattle.std.proofs.Common.{◌≡◌, ℕ, ◌+◌, ◌-◌, ◌≤◌, zero, suc, List, [], ◌∷◌, ◌++◌, length, take, drop, refl, ap}
use Rattle.std.proofs.Common.{◌∙◌, sym, subst, arith, append_assoc, inl, inr}
use Rattle.std.proofs.lemmas.Bool.Decides.{leb_tells}
use Rattle.std.proofs.lemmas.List.{length-take-le, take-append-le, take-take, take-append-drop, drop-append-le}
use Rattle.std.proofs.lemmas.List.{drop-take, length-drop, append-nil}
use Rattle.enc_decoder.specs.Sequence.{Sequence}
use Rattle.enc_decoder.specs.Segmentation.{Rule, Head, head_sequence, sequences_of}
use Rattle.enc_decoder.specs.Remainder.{AreBytes, AreFirstSequences, Determines}
use Rattle.enc_decoder.specs.RuleLaws.{IsDeterminedWithin, IsLookahead, IsDeterminedByEnd, HasLookahead}
use Rattle.enc_decoder.specs.Lookahead.{CoverLookahead}
use Rattle.enc_decoder.proofs.ByteLemmas.{bytes-append, bytes-drop}
use Rattle.enc_decoder.proofs.SegmentationLemmas.{sequences_of-nil, sequences_of-cons, first_of, rest_of}
use Rattle.enc_decoder.proofs.FirstSequenceLemmas.{same_by_sequence, within_by, more_differs}

none_begin : (s : Sequence) (ss : List Sequence) → AreFirstSequences (s ∷ ss) [] → ⊥
none_begin s ss first = let none_is_one : [] ≡ s ∷ (ss ++ first.0) = first.1 in cc

-- the first k bytes without the first n
pub left_of : (n k : ℕ) (z : List ℕ) → n ≤ k → drop n (take k z) ≡ take (k - n) (drop n z)
left_of n k z h =
    let parted : k ≡ n + (k - n) = omega (arith, h) in
    ap (λ i. drop n (take i z)) parted ∙ drop-take n (k - n) z

module _ (rule : Rule) (law : HasLookahead rule) where
  module _ (set b : ℕ) (z : List ℕ) where
    abbrev more : ℕ
    more = (rule set b z).more

    abbrev own : Sequence
    own = head_sequence (rule set b z) b z

    -- other bytes with the same first sequence have the same head
    same_head : (y : List ℕ) (ss : List Sequence)
        → AreFirstSequences (own ∷ ss) (sequences_of rule set (b ∷ y)) → rule set b y ≡ rule set b z
    same_head y ss first =
        same_by_sequence (rule set b y) (rule set b z) b y z (within_by rule law set b y)
        (within_by rule law set b z)
        (first_of _ _ _ _ (sym (sequences_of-cons rule set b y) ∙ first.1))

    -- any bytes may follow the lookahead
    still_determined : (n j : ℕ) → IsDeterminedWithin rule set b z n → more + n ≤ j → (y : List ℕ)
        → rule set b (take j z ++ y) ≡ rule set b z
    still_determined n j determined contains y =
        let enough_len = more + n in
        ap (rule set b) (ap (λ x. x ++ y) (sym (take-append-drop enough_len (take j z))
        ∙ ap (λ x. x ++ drop enough_len (take j z)) (take-take enough_len j z contains))
        ∙ append_assoc (take enough_len z) (drop enough_len (take j z)) y)
        ∙ determined.same (drop enough_len (take j z) ++ y)

    -- then this sequence comes first, and the others are those of the rest
    shown : (n j : ℕ) → IsDeterminedWithin rule set b z n → more + n ≤ j → j ≤ length z
        → (y : List ℕ)
        → sequences_of rule set (b ∷ (take j z ++ y)) ≡ own ∷ sequences_of rule (rule set b z).set
        (take (j - more) (drop more z) ++ y)
    shown n j determined contains within y =
        let as_long : length (take j z) ≡ j = length-take-le j z within in
        sequences_of-cons rule set b (take j z ++ y)
        ∙ ap (λ (h : Head). head_sequence h b (take j z ++ y)
        ∷ sequences_of rule h.set (drop h.more (take j z ++ y)))
        (still_determined n j determined contains y)
        ∙ ap (λ x. record own { bytes = b ∷ x }
        ∷ sequences_of rule (rule set b z).set (drop more (take j z ++ y)))
        (take-append-le more (take j z) y (omega (arith, as_long, contains))
        ∙ take-take more j z (omega (arith, contains)))
        ∙ ap (λ x. own ∷ sequences_of rule (rule set b z).set x)
        (drop-append-le more (take j z) y (omega (arith, as_long, contains))
        ∙ ap (λ x. x ++ y) (left_of more j z (omega (arith, contains))))

    module _ (ss : List Sequence) (are_bytes : AreBytes z) (j : ℕ) (enough_bytes : j ≤ length z)
        (determines : Determines (sequences_of rule set) (b ∷ take j z) (own ∷ ss)) where
      -- any bytes after those lead to the same head
      same_after : (y : List ℕ) → AreBytes y → rule set b (take j z ++ y) ≡ rule set b z
      same_after y bytes = same_head (take j z ++ y) ss (determines y bytes)

      not_by_end : IsDeterminedByEnd rule set b z → ⊥
      not_by_end by_end = more_differs rule set b z j by_end (same_after (drop j z ++ by_end.more)
          (bytes-append (drop j z) by_end.more (bytes-drop j z are_bytes) by_end.bytes))

      -- they contain the sequence
      own_bytes : more ≤ j
      own_bytes = omega (
        arith,
        within_by rule law set b (take j z ++ []),
        ap (λ (t : Head). t.more) (same_after [] tt),
        ap length (append-nil (take j z)),
        length-take-le j z enough_bytes,
      )

      enough : (n : ℕ) → IsLookahead rule set b z n → more + n ≤ j
      enough n lookahead = elim (leb_tells (more + n) j) [
        | inl is_enough ↦ is_enough.1
        | inr too_few ↦ absurd (
            let contains = own_bytes in
            let parted : more + (j - more) ≡ j = omega (arith, contains) in
            lookahead.least are_bytes (j - more) (omega (arith, contains, too_few.1))
            (λ y bytes. ap (λ k. rule set b (take k z ++ y)) parted ∙ same_after y bytes))
      ]

      looked : (n : ℕ) × IsLookahead rule set b z n × (1 + more + n ≤ suc j)
      looked = elim (law.others set b z) [
        | inl found ↦ (found.0, found.2, omega (arith, enough found.0 found.2))
        | inr e ↦ absurd (not_by_end e)
      ]

      rest_determined : Determines (sequences_of rule (rule set b z).set)
          (take (j - more) (drop more z)) ss
      rest_determined = λ y e.
          let first = determines y e in let lookahead = looked in (
            first.0,
            rest_of _ _ _ _ (sym (shown lookahead.0 j lookahead.1.determined
                (omega (arith, lookahead.2)) enough_bytes y) ∙ first.1),
          )

  pub reach_after : (ss rest : List Sequence) (set k : ℕ) (z : List ℕ) → AreBytes z
      → sequences_of rule set z ≡ ss ++ rest → k ≤ length z
      → Determines (sequences_of rule set) (take k z) ss → CoverLookahead rule set z ss k
  reach_after [] rest set k z are_bytes whole l determines = tt
  reach_after (s ∷ ss) rest set k [] are_bytes whole l determines =
      none_begin s ss (subst (AreFirstSequences (s ∷ ss)) (sequences_of-nil rule set) (rest, whole))
  reach_after (s ∷ ss) rest set zero (b ∷ z) are_bytes whole l determines =
      absurd (none_begin s ss
      (subst (AreFirstSequences (s ∷ ss)) (sequences_of-nil rule set) (determines [] tt)))
  reach_after (s ∷ ss) rest set (suc j) (b ∷ z) are_bytes whole l determines =
      let parts = sym (sequences_of-cons rule set b z) ∙ whole in
      let own_first = subst (λ t. Determines (sequences_of rule set) (b ∷ take j z) (t ∷ ss))
      (sym (first_of _ _ _ _ parts)) determines in
      let enough_bytes : j ≤ length z = omega (arith, l) in
      let own_len = (rule set b z).more in
      let contains = own_bytes set b z ss are_bytes.1 j enough_bytes own_first in
      let same_len : j - own_len ≡ suc j - (1 + own_len) = omega (arith, contains) in (
        looked set b z ss are_bytes.1 j enough_bytes own_first,
        subst (CoverLookahead rule (rule set b z).set (drop own_len z) ss) same_len
            (reach_after ss rest (rule set b z).set (j - own_len) (drop own_len z)
            (bytes-drop own_len z are_bytes.1) (rest_of _ _ _ _ parts)
            (omega (arith, length-drop own_len z, enough_bytes, contains))
            (rest_determined set b z ss are_bytes.1 j enough_bytes own_first)),
      )

  pub determine_if_after : (ss rest : List Sequence) (set k : ℕ) (z : List ℕ)
      → sequences_of rule set z ≡ ss ++ rest
      → k ≤ length z
      → CoverLookahead rule set z ss k → Determines (sequences_of rule set) (take k z) ss
  determine_if_after [] rest set k z whole l covers = λ y a.
      (sequences_of rule set (take k z ++ y), refl)
  determine_if_after (s ∷ ss) rest set k [] whole l covers = absurd covers
  determine_if_after (s ∷ ss) rest set zero (b ∷ z) whole l covers =
      absurd (omega (arith, covers.0.2))
  determine_if_after (s ∷ ss) rest set (suc j) (b ∷ z) whole l covers =
      let parts = sym (sequences_of-cons rule set b z) ∙ whole in
      let enough_bytes : j ≤ length z = omega (arith, l) in
      let own_len = (rule set b z).more in
      let contains = covers.0.2 in
      let same_len : suc j - (1 + own_len) ≡ j - own_len = omega (arith, contains) in
      let rest_known = determine_if_after ss rest (rule set b z).set (j - own_len) (drop own_len z)
      (rest_of _ _ _ _ parts) (omega (arith, length-drop own_len z, enough_bytes, contains))
      (subst (CoverLookahead rule (rule set b z).set (drop own_len z) ss) same_len covers.1) in
      λ y a. let first = rest_known y a in (
        first.0,
        shown set b z covers.0.0 j covers.0.1.determined (omega (arith, contains)) enough_bytes y
            ∙ ap (λ ts. own set b z ∷ ts) first.1
            ∙ ap (λ t. t ∷ (ss ++ first.0)) (first_of _ _ _ _ parts),
      )

-- bytes determine it or only the end does, not both
pub determined_not_by_end : (rule : Rule) (set b : ℕ) (z : List ℕ) (n : ℕ)
    → IsDeterminedWithin rule set b z n
    → IsDeterminedByEnd rule set b z → ⊥
determined_not_by_end rule set b z n determined by_end =
    let enough_len = (rule set b z).more + n in
    more_differs rule set b z enough_len by_end (determined.same (drop enough_len z ++ by_end.more))

-- the lookahead is the least
pub no_more_than : (rule : Rule) (set b : ℕ) (z : List ℕ) (n m : ℕ) → AreBytes z
    → IsLookahead rule set b z n
    → IsDeterminedWithin rule set b z m → n ≤ m
no_more_than rule set b z n m are_bytes lookahead determined = elim (leb_tells n m) [
  | inl within ↦ within.1
  | inr more ↦ absurd (lookahead.least are_bytes m more.1 (λ y _. determined.same y))
]

-- it is at most three
pub at_most_three : (rule : Rule) → HasLookahead rule → (set b : ℕ) (z : List ℕ) (n : ℕ)
    → AreBytes z
    → IsLookahead rule set b z n → n ≤ 3
at_most_three rule law set b z n are_bytes lookahead = elim (law.others set b z) [
  | inl found ↦
      let least = no_more_than rule set b z n found.0 are_bytes lookahead found.2.determined in
      omega (arith, found.1, least)
  | inr by_end ↦ absurd (determined_not_by_end rule set b z n lookahead.determined by_end)
]
