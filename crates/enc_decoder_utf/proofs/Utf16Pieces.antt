-- Code units of UTF-16 that are no surrogates, and surrogate pairs, are pieces.
use Rattle.std.proofs.Common.{◌≡◌, ℕ, Bool, true, false, [], ◌∷◌, refl, arith}
use Rattle.std.proofs.lemmas.Bool.Decides.{nat_tests}
use Rattle.std.specs.Char.{IsScalar}
use Rattle.enc_output.specs.CodeUnits.{AreCodeUnits, unit_of}
use Rattle.enc_decoder_utf.specs.Utf16.{code_unit, is_lead_surrogate, is_trail_surrogate, pair_scalar, utf_16_rule}
use Rattle.enc_decoder.specs.Taking.{IsWholeChar}
use Rattle.enc_decoder.proofs.SegmentationLemmas.{sequences_of-head}
use Rattle.enc_decoder_utf.proofs.Utf16Lemmas.{Leads, Trails, character_first, pair_first}

module _ (big : Bool) where
  pub unit_piece : {a b c : ℕ} → c ≡ code_unit big a b → Leads big false a b → Trails big false a b
      → IsWholeChar (utf_16_rule big) 0 (a ∷ b ∷ []) c
  unit_piece {a} {b} is_unit no_lead no_trail y =
      rw is_unit (sequences_of-head (utf_16_rule big) 0 a (b ∷ y) _
      (character_first big 0 a b y no_lead no_trail))

  pub pair_piece : {a b d e c : ℕ} → c ≡ pair_scalar (code_unit big a b) (code_unit big d e)
      → Leads big true a b → Trails big true d e
      → IsWholeChar (utf_16_rule big) 0 (a ∷ b ∷ d ∷ e ∷ []) c
  pair_piece {a} {b} {d} {e} is_pair leads trails y =
      rw is_pair (sequences_of-head (utf_16_rule big) 0 a (b ∷ d ∷ e ∷ y) _
      (pair_first big 0 a b d e y leads trails))

-- by the code unit's number alone

no_surrogate : (u : ℕ) → IsScalar u
    → (is_lead_surrogate u ≡ false) × (is_trail_surrogate u ≡ false)
unfolding is_lead_surrogate is_trail_surrogate
no_surrogate u is_scalar = (grind (arith, nat_tests), grind (arith, nat_tests))

same_unit : (big : Bool) (a b : ℕ) → unit_of big a b ≡ code_unit big a b
unfolding code_unit
same_unit true a b = refl
same_unit false a b = refl

pub units_are_pieces : (big : Bool) → AreCodeUnits (IsWholeChar (utf_16_rule big) 0) big
units_are_pieces big a b is_scalar =
    let same = same_unit big a b in
    let alone = rw same at (no_surrogate (unit_of big a b) is_scalar) in
    unit_piece big same alone.0 alone.1
