-- The first sequence by UTF-16's rule in each of its forms, and its scalar values. UTF-16 has no
-- character sets: `set` is handed on.
use Rattle.std.proofs.Common.{◌≡◌, ℕ, ◌<◌, ◌≤◌, Bool, true, false, List, [], ◌∷◌, length, refl, arith}
use Rattle.std.proofs.Common.{inl, inr}
use Rattle.std.proofs.lemmas.Bool.Decides.{nat_tests}
use Rattle.std.specs.Char.{InScalarRange}
use Rattle.enc_decoder.specs.Segmentation.{Head, character_head, malformed_head}
use Rattle.enc_decoder.specs.Prefixes.{prefix_head, prefix_rule}
use Rattle.enc_decoder_utf.specs.Utf16.{code_unit, is_lead_surrogate, is_trail_surrogate, pair_scalar}
use Rattle.enc_decoder_utf.specs.Utf16.{unit_prefix, utf_16_rule}
use Rattle.enc_decoder.proofs.FirstSequenceLemmas.{true_or_false}

-- what the tests say

pub lead_range : (u : ℕ) → is_lead_surrogate u ≡ true → (0xD800 ≤ u) × (u ≤ 0xDBFF)
unfolding is_lead_surrogate
lead_range u leads = (grind (arith, nat_tests), grind (arith, nat_tests))

pub trail_range : (u : ℕ) → is_trail_surrogate u ≡ true → (0xDC00 ≤ u) × (u ≤ 0xDFFF)
unfolding is_trail_surrogate
trail_range u trails = (grind (arith, nat_tests), grind (arith, nat_tests))

-- the scalar values

pub unit_in_range : (u : ℕ) → u < 0x10000 → is_lead_surrogate u ≡ false
    → is_trail_surrogate u ≡ false
    → InScalarRange u
unfolding is_lead_surrogate is_trail_surrogate
unit_in_range u below no_lead no_trail = grind (arith, nat_tests)

pub pair_in_range : (lead trail : ℕ) → is_lead_surrogate lead ≡ true
    → is_trail_surrogate trail ≡ true → InScalarRange (pair_scalar lead trail)
unfolding pair_scalar
pair_in_range lead trail leads trails =
    let lead_in_range = lead_range lead leads in
    let trail_in_range = trail_range trail trails in inr (omega arith, omega arith)

module _ (big : Bool) where
  -- whether the code unit of two bytes is a lead surrogate, and whether it is a trail

  abbrev pub Leads : Bool → ℕ → ℕ → Type 0
  Leads answer b c = is_lead_surrogate (code_unit big b c) ≡ answer

  abbrev pub Trails : Bool → ℕ → ℕ → Type 0
  Trails answer b c = is_trail_surrogate (code_unit big b c) ≡ answer

  -- The first sequence: one byte at the end, a character, a trail alone, a lead by the bytes after
  -- it, a pair, a lead alone. The number in a head is that of the bytes after the first.

  pub one_head : (set b : ℕ) → utf_16_rule big set b [] ≡ malformed_head set 0
  unfolding prefix_rule
  one_head set b = refl

  pub character_first : (set b c : ℕ) (z : List ℕ) → Leads false b c → Trails false b c
      → utf_16_rule big set b (c ∷ z) ≡ character_head set 1 (code_unit big b c)
  unfolding prefix_rule
  character_first set b c z no_lead no_trail = rw (no_lead, no_trail, prefix_head, unit_prefix) refl

  pub trail_first : (set b c : ℕ) (z : List ℕ) → Leads false b c → Trails true b c
      → utf_16_rule big set b (c ∷ z) ≡ malformed_head set 1
  unfolding prefix_rule
  trail_first set b c z no_lead trails = rw (no_lead, trails, prefix_head, unit_prefix) refl

  lead_at_end : (set b c : ℕ) → Leads true b c
      → utf_16_rule big set b (c ∷ []) ≡ malformed_head set 1
  unfolding prefix_rule
  lead_at_end set b c leads = rw (leads, prefix_head, unit_prefix) refl

  lead_and_byte : (set b c d : ℕ) → Leads true b c
      → utf_16_rule big set b (c ∷ d ∷ []) ≡ malformed_head set 2
  unfolding prefix_rule
  lead_and_byte set b c d leads = rw (leads, prefix_head, unit_prefix) refl

  pub pair_first : (set b c d e : ℕ) (z : List ℕ) → Leads true b c → Trails true d e
      → utf_16_rule big set b (c ∷ d ∷ e ∷ z)
      ≡ character_head set 3 (pair_scalar (code_unit big b c) (code_unit big d e))
  unfolding prefix_rule
  pair_first set b c d e z leads trails = rw (leads, trails, prefix_head, unit_prefix) refl

  lead_alone : (set b c d e : ℕ) (z : List ℕ) → Leads true b c → Trails false d e
      → utf_16_rule big set b (c ∷ d ∷ e ∷ z) ≡ malformed_head set 1
  unfolding prefix_rule
  lead_alone set b c d e z leads other = rw (leads, other, prefix_head, unit_prefix) refl

-- A property of the first byte, all bytes after it and the head, if it holds in each form. Then it
-- holds of what the rule gives (`holds_of_first`).

pub record HoldsOfEachForm (big : Bool) (set : ℕ) (Holds : ℕ → List ℕ → Head → Type 0)
    : Type 0 where
  pub one_byte : (b : ℕ) → Holds b [] (malformed_head set 0)
  pub character : (b c : ℕ) (z : List ℕ) → Leads big false b c → Trails big false b c
      → Holds b (c ∷ z) (character_head set 1 (code_unit big b c))
  pub trail : (b c : ℕ) (z : List ℕ) → Leads big false b c → Trails big true b c
      → Holds b (c ∷ z) (malformed_head set 1)
  pub lead_at_end : (b c : ℕ) → Leads big true b c → Holds b (c ∷ []) (malformed_head set 1)
  pub lead_and_byte : (b c d : ℕ) → Leads big true b c → Holds b (c ∷ d ∷ []) (malformed_head set 2)
  pub pair : (b c d e : ℕ) (z : List ℕ) → Leads big true b c → Trails big true d e
      → Holds b (c ∷ d ∷ e ∷ z)
      (character_head set 3 (pair_scalar (code_unit big b c) (code_unit big d e)))
  pub lead_alone : (b c d e : ℕ) (z : List ℕ) → Leads big true b c → Trails big false d e
      → Holds b (c ∷ d ∷ e ∷ z) (malformed_head set 1)

module _ {big : Bool} {set : ℕ} {Holds : ℕ → List ℕ → Head → Type 0}
    (each : HoldsOfEachForm big set Holds) where
  lead_holds : (b c : ℕ) (z : List ℕ) → Leads big true b c
      → Holds b (c ∷ z) (utf_16_rule big set b (c ∷ z))
  lead_holds b c [] leads = rw (lead_at_end big set b c leads) (each.lead_at_end b c leads)
  lead_holds b c (d ∷ []) leads =
      rw (lead_and_byte big set b c d leads) (each.lead_and_byte b c d leads)
  lead_holds b c (d ∷ e ∷ z) leads = elim (true_or_false (is_trail_surrogate (code_unit big d e))) [
    | inl trails ↦
        rw (pair_first big set b c d e z leads trails) (each.pair b c d e z leads trails)
    | inr other ↦
        rw (lead_alone big set b c d e z leads other) (each.lead_alone b c d e z leads other)
  ]

  pub holds_of_first : (b : ℕ) (z : List ℕ) → Holds b z (utf_16_rule big set b z)
  holds_of_first b [] = rw (one_head big set b) (each.one_byte b)
  holds_of_first b (c ∷ z) = elim (true_or_false (is_lead_surrogate (code_unit big b c))) [
    | inl leads ↦ lead_holds b c z leads
    | inr no_lead ↦ elim (true_or_false (is_trail_surrogate (code_unit big b c))) [
      | inl trails ↦
          rw (trail_first big set b c z no_lead trails) (each.trail b c z no_lead trails)
      | inr alone ↦
          rw (character_first big set b c z no_lead alone) (each.character b c z no_lead alone)
    ]
  ]

-- a sequence is not one byte alone if any follow it
pub some_more : (big : Bool) (set b : ℕ) (z : List ℕ) → 0 < length z
    → 0 < (utf_16_rule big set b z).more
some_more big set = holds_of_first {Holds = λ _ z h. 0 < length z → 0 < h.more} (record {
  one_byte = λ b some. some;
  character = λ b c z _ _ _. omega arith;
  trail = λ b c z _ _ _. omega arith;
  lead_at_end = λ b c _ _. omega arith;
  lead_and_byte = λ b c d _ _. omega arith;
  pair = λ b c d e z _ _ _. omega arith;
  lead_alone = λ b c d e z _ _ _. omega arith;
})
