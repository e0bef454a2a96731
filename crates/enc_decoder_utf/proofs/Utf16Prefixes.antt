-- The laws of UTF-16's prefixes, big-endian and little-endian.
use Rattle.std.proofs.Common.{◌≡◌, ℕ, ◌<◌, Bool, true, false, cond, List, [], ◌∷◌, length, refl, ap, arith, subst}
use Rattle.std.proofs.Math.Seq.{drop-nil}
use Rattle.enc_decoder.specs.declared.byte_codec.Text.TheVariants.{One}
use Rattle.enc_decoder.specs.declared.prefix.Prefix.TheVariants.{Complete, Malformed, Incomplete}
use Rattle.enc_decoder.specs.Segmentation.{Head}
use Rattle.enc_decoder.specs.Prefixes.{prefix_head, malformed_prefix_head, LeavesIncomplete, CanBeOther, ArePrefixes}
use Rattle.enc_decoder.proofs.PrefixLaws.{IsLawfulPrefix, either_lawful, prefixes_by, one_is_text}
use Rattle.enc_decoder_utf.specs.Utf16.{code_unit, is_lead_surrogate, is_trail_surrogate, pair_scalar}
use Rattle.enc_decoder_utf.specs.Utf16.{utf_16_prefix}

-- a trail surrogate
trail_exists : (big : Bool)
    → (d : ℕ) × (e : ℕ) × (d < 256) × (e < 256) × (is_trail_surrogate (code_unit big d e) ≡ true)
unfolding code_unit is_trail_surrogate
trail_exists true = (0xDC, 0, omega arith, omega arith, refl)
trail_exists false = (0, 0xDC, omega arith, omega arith, refl)

-- After a single byte, a lead surrogate or three bytes, these bytes begin another sequence than the
-- end of the input leaves.

other_first : (big : Bool) (set a : ℕ) (t u : Bool) (c : ℕ)
    → prefix_head (utf_16_prefix big) set (a ∷ 0 ∷ [])
    (cond t Incomplete (cond u (Malformed 2) (Complete (One c)))) []
    ≡ malformed_prefix_head set 1 → ⊥
other_first big set a true u c same =
    let more = ap (λ (h : Head). h.more) same in omega (arith, more)
other_first big set a false true c same =
    let more = ap (λ (h : Head). h.more) same in omega (arith, more)
other_first big set a false false c same = let kind = ap (λ (h : Head). h.kind) same in cc

other_pair : (big : Bool) (set a b d e c : ℕ) (t : Bool) → t ≡ true
    → prefix_head (utf_16_prefix big) set (a ∷ b ∷ d ∷ e ∷ [])
    (cond t (Complete (One c)) (Malformed 2)) [] ≡ malformed_prefix_head set 2 → ⊥
other_pair big set a b d e c true is same = let kind = ap (λ (h : Head). h.kind) same in cc
other_pair big set a b d e c false is same = cc

other_last : (big : Bool) (set a b d c : ℕ) (t : Bool)
    → prefix_head (utf_16_prefix big) set (a ∷ b ∷ d ∷ 0 ∷ [])
    (cond t (Complete (One c)) (Malformed 2)) [] ≡ malformed_prefix_head set 3 → ⊥
other_last big set a b d c true same = let kind = ap (λ (h : Head). h.kind) same in cc
other_last big set a b d c false same =
    let more = ap (λ (h : Head). h.more) same in omega (arith, more)

module _ (big : Bool) where
  lawful : (front : List ℕ) → IsLawfulPrefix 3 (length front) (utf_16_prefix big front)
  lawful [] = omega arith
  lawful (a ∷ []) = omega arith
  lawful (a ∷ b ∷ []) =
      either_lawful 3 2 (is_lead_surrogate (code_unit big a b)) Incomplete _ (omega arith)
      (either_lawful 3 2 (is_trail_surrogate (code_unit big a b)) (Malformed 2)
      (Complete (One (code_unit big a b))) (omega arith, omega arith)
      (one_is_text (code_unit big a b)))
  lawful (a ∷ b ∷ c ∷ []) = omega arith
  lawful (a ∷ b ∷ c ∷ d ∷ z) =
      let scalar = pair_scalar (code_unit big a b) (code_unit big c d) in
      either_lawful 3 (length (a ∷ b ∷ c ∷ d ∷ z)) (is_trail_surrogate (code_unit big c d))
      (Complete (One scalar)) (Malformed 2) (one_is_text scalar) (omega arith, omega arith)

  can_be_other : (front : List ℕ) → 0 < length front → utf_16_prefix big front ≡ Incomplete
      → CanBeOther (utf_16_prefix big) front
  can_be_other [] some incomplete = absurd (omega arith)
  can_be_other (a ∷ []) some incomplete = record {
    more = 0 ∷ [];
    bytes = (omega arith, tt);
    other = λ set. other_first big set a (is_lead_surrogate (code_unit big a 0))
        (is_trail_surrogate (code_unit big a 0)) (code_unit big a 0);
  }
  can_be_other (a ∷ b ∷ []) some incomplete =
      let trail = trail_exists big in record {
        more = trail.0 ∷ trail.1 ∷ [];
        bytes = (trail.2, (trail.3, tt));
        other = λ set. other_pair big set a b trail.0 trail.1 _
            (is_trail_surrogate (code_unit big trail.0 trail.1)) trail.4;
      }
  can_be_other (a ∷ b ∷ c ∷ []) some incomplete = record {
    more = 0 ∷ [];
    bytes = (omega arith, tt);
    other = λ set. other_last big set a b c _ (is_trail_surrogate (code_unit big c 0));
  }
  can_be_other (a ∷ b ∷ c ∷ d ∷ z) some incomplete =
      let too_long = subst (IsLawfulPrefix 3 (length (a ∷ b ∷ c ∷ d ∷ z))) incomplete
      (lawful (a ∷ b ∷ c ∷ d ∷ z)) in
      absurd (omega arith)

  pub utf_16_prefixes : ArePrefixes (utf_16_prefix big)
  utf_16_prefixes = prefixes_by (utf_16_prefix big) 3 (omega arith) refl lawful can_be_other

  -- A malformed sequence has two bytes, and leaves the third of four.

  unit_len : (t u : Bool) (c n : ℕ)
      → cond t Incomplete (cond u (Malformed 2) (Complete (One c))) ≡ Malformed n → n ≡ 2
  unit_len true u c n malformed = absurd (cc)
  unit_len false true c n malformed = cc
  unit_len false false c n malformed = absurd (cc)

  pair_len : (t : Bool) (c n : ℕ) → cond t (Complete (One c)) (Malformed 2) ≡ Malformed n → n ≡ 2
  pair_len true c n malformed = absurd (cc)
  pair_len false c n malformed = cc

  not_begun : (t : Bool) (c : ℕ) → cond t (Complete (One c)) (Malformed 2) ≡ Incomplete → ⊥
  not_begun true c is_incomplete = cc
  not_begun false c is_incomplete = cc

  pub utf_16_leaves : LeavesIncomplete (utf_16_prefix big)
  utf_16_leaves [] b n incomplete malformed = rw (drop-nil n) tt
  utf_16_leaves (a ∷ []) b n incomplete malformed =
      let two = unit_len (is_lead_surrogate (code_unit big a b))
      (is_trail_surrogate (code_unit big a b)) _ n malformed in
      rw two tt
  utf_16_leaves (a ∷ b ∷ []) c n incomplete malformed = absurd (cc)
  utf_16_leaves (a ∷ b ∷ c ∷ []) d n incomplete malformed =
      let two = pair_len (is_trail_surrogate (code_unit big c d)) _ n malformed in
      rw two (refl, tt)
  utf_16_leaves (a ∷ b ∷ c ∷ d ∷ z) e n incomplete malformed =
      absurd (not_begun (is_trail_surrogate (code_unit big c d)) _ incomplete.1.1.1.0)
