-- Inputs that are divided after a byte that ends a sequence.
use Rattle.std.proofs.Common.{◌≡◌, ℕ, ◌+◌, ◌≤◌, zero, suc, List, [], ◌∷◌, ◌++◌, length, take, refl, ap, ◌∙◌, sym}
use Rattle.std.proofs.Common.{arith, inl, inr}
use Rattle.std.proofs.lemmas.List.{length-append}
use Rattle.enc_decoder.specs.Segmentation.{Head, Rule, head_sequence, sequences_after}
use Rattle.enc_decoder.specs.RuleLaws.{IsLawfulRule, HasBoundedLookahead}
use Rattle.enc_decoder.specs.Division.{IsDividedAfter}

-- The byte ends a sequence: the bytes up to the first such byte determine the first sequence of an
-- input, and no other character set is designated.
pub record EndsSequence (c : ℕ) (rule : Rule) : Type 0 where
  pub same : (b : ℕ) (z y : List ℕ) → rule 0 b (z ++ c ∷ y) ≡ rule 0 b (z ++ c ∷ [])
  pub alone : (y : List ℕ) → rule 0 c y ≡ rule 0 c []
  pub set : (b : ℕ) (z : List ℕ) → (rule 0 b z).set ≡ 0

-- a lawful rule takes no byte past the end of the input
within_input : (rule : Rule) → IsLawfulRule rule → (b : ℕ) (z : List ℕ)
    → (rule 0 b z).more ≤ length z
within_input rule lawful b z = by_lookahead (lawful.lookahead.others 0 b z)
  where
    by_lookahead : HasBoundedLookahead rule 0 b z → (rule 0 b z).more ≤ length z
    by_lookahead (inl looks) = let there = looks.2.determined.there in omega arith
    by_lookahead (inr by_end) = by_end.within

-- the first bytes up to this one, whatever follows it
pub take_front : (c n : ℕ) (z y : List ℕ) → n ≤ length z + 1
    → take n (z ++ c ∷ y) ≡ take n (z ++ c ∷ [])
take_front c zero z y within = refl
take_front c (suc zero) [] y within = refl
take_front c (suc (suc n)) [] y within = absurd (omega arith)
take_front c (suc n) (b ∷ z) y within = ap (λ t. b ∷ t) (take_front c n z y (omega arith))

module _ (c : ℕ) (rule : Rule) (lawful : IsLawfulRule rule) (ends : EndsSequence c rule) where
  alone_then : (h : Head) (y : List ℕ) → h.more ≡ 0 → h.set ≡ 0
      → head_sequence h c y ∷ sequences_after rule h.set h.more y
      ≡ (head_sequence h c [] ∷ sequences_after rule h.set h.more [])
      ++ sequences_after rule 0 0 y
  unfolding sequences_after
  alone_then h y none_more no_set = rw (none_more, no_set) refl

  -- the sequence of this byte, and those of the bytes after it
  at_byte : (y : List ℕ) → sequences_after rule 0 0 (c ∷ y)
      ≡ sequences_after rule 0 0 (c ∷ []) ++ sequences_after rule 0 0 y
  unfolding sequences_after
  at_byte y =
      let none_more : (rule 0 c []).more ≡ 0 =
      (let within = within_input rule lawful c [] in omega arith) in
      ap (λ (h : Head). head_sequence h c y ∷ sequences_after rule h.set h.more y) (ends.alone y)
      ∙ alone_then (rule 0 c []) y none_more (ends.set c [])

  divided_after : (k : ℕ) (z y : List ℕ) → k ≤ length z + 1
      → sequences_after rule 0 k (z ++ c ∷ y)
      ≡ sequences_after rule 0 k (z ++ c ∷ []) ++ sequences_after rule 0 0 y
  unfolding sequences_after
  divided_after zero [] y within = at_byte y
  divided_after (suc zero) [] y within = refl
  divided_after (suc (suc k)) [] y within = absurd (omega arith)
  divided_after (suc k) (b ∷ z) y within = divided_after k z y (omega arith)
  divided_after zero (b ∷ z) y within =
      let head : Head = rule 0 b (z ++ c ∷ []) in
      let most : head.more ≤ length z + 1 =
      (let inside = within_input rule lawful b (z ++ c ∷ []) in
      let longer = length-append z (c ∷ []) in omega arith) in
      let no_set : head.set ≡ 0 = ends.set b (z ++ c ∷ []) in
      ap (λ (f : Head). head_sequence f b (z ++ c ∷ y)
      ∷ sequences_after rule f.set f.more (z ++ c ∷ y)) (ends.same b z y)
      ∙ (ap (λ t. record { bytes = b ∷ t; text = head.text; kind = head.kind; set = head.set }
      ∷ sequences_after rule head.set head.more (z ++ c ∷ y)) (take_front c head.more z y most)
      ∙ ap (λ ss. head_sequence head b (z ++ c ∷ []) ∷ ss)
      (ap (λ s. sequences_after rule s head.more (z ++ c ∷ y)) no_set
      ∙ (divided_after head.more z y most
      ∙ ap (λ s. sequences_after rule s head.more (z ++ c ∷ []) ++ sequences_after rule 0 0 y)
      (sym no_set))))

  pub divided_by : IsDividedAfter c rule
  divided_by front back = divided_after 0 front back (omega arith)
