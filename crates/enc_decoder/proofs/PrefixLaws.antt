-- How an encoding shows the laws of prefixes.
use Rattle.std.proofs.Common.{◌≡◌, ◌≢◌, ℕ, ◌<◌, ◌≤◌, Bool, true, false, cond, Option, Some, None, List, [], ◌∷◌}
use Rattle.std.proofs.Common.{◌++◌, length, subst, sym, ap, ◌∙◌, arith}
use Rattle.enc_decoder.specs.declared.byte_codec.Text.TheVariants.{One}
use Rattle.enc_decoder.specs.declared.prefix.Prefix.{Prefix}
use Rattle.enc_decoder.specs.declared.prefix.Prefix.TheVariants.{Complete, Malformed, Incomplete}
use Rattle.enc_decoder.specs.Segmentation.{Head}
use Rattle.enc_decoder.specs.Prefixes.{single_prefix, prefix_head, IsPrefixText, CanBeOther, ArePrefixes}
use Rattle.enc_decoder.proofs.RuleLemmas.{one_small}

pub one_is_text : (c : ℕ) → IsPrefixText (One c)
one_is_text c = record { some = λ no_text. cc; small = one_small c }

-- What the laws say of the kind of a prefix, by its length and that of the longest incomplete one.
abbrev pub IsLawfulPrefix : ℕ → ℕ → Prefix → Type 0
IsLawfulPrefix most len (Complete text) = IsPrefixText text
IsLawfulPrefix most len (Malformed n) = (0 < n) × (n ≤ len)
IsLawfulPrefix most len Incomplete = len ≤ most

-- a byte that stands alone

pub single_lawful : (most len : ℕ) (found : Option ℕ) → 0 < len
    → IsLawfulPrefix most len (single_prefix found)
single_lawful most len None some = (omega arith, some)
single_lawful most len (Some c) some = one_is_text c

pub single_finished : (found : Option ℕ) → single_prefix found ≢ Incomplete
single_finished None incomplete = cc
single_finished (Some c) incomplete = cc

pub either_lawful : (most len : ℕ) (t : Bool) (r s : Prefix) → IsLawfulPrefix most len r
    → IsLawfulPrefix most len s → IsLawfulPrefix most len (cond t r s)
either_lawful most len true r s lawful also = lawful
either_lawful most len false r s lawful also = also

pub prefixes_by : (prefix : List ℕ → Prefix) (most : ℕ) → most ≤ 3 → prefix [] ≡ Incomplete
    → ((front : List ℕ) → IsLawfulPrefix most (length front) (prefix front))
    → ((front : List ℕ) → 0 < length front → prefix front ≡ Incomplete → CanBeOther prefix front)
    → ArePrefixes prefix
prefixes_by prefix most few nothing lawful can_be_other = record {
  nothing = nothing;
  texts = λ front text e. subst (IsLawfulPrefix most (length front)) e (lawful front);
  malformed = λ front n e. subst (IsLawfulPrefix most (length front)) e (lawful front);
  short = λ front e.
      let short = subst (IsLawfulPrefix most (length front)) e (lawful front) in omega arith;
  can_be_other = can_be_other;
}

-- FF makes these bytes malformed
pub malformed_with_ff : (prefix : List ℕ → Prefix) (front : List ℕ) (len : ℕ) → 0 < len
    → 0 < length front → prefix (front ++ 0xFF ∷ []) ≡ Malformed len → len ≢ length front
    → CanBeOther prefix front
malformed_with_ff prefix front len some some_front malformed other = record {
  more = 0xFF ∷ [];
  bytes = (omega arith, tt);
  other = λ set same.
      let head = ap (λ r. prefix_head prefix set (front ++ 0xFF ∷ []) r []) malformed in
      let more_is = ap (λ (h : Head). h.more) (sym head ∙ same) in
      other (omega (arith, more_is));
}

-- a prefix that a test shows not to be incomplete
pub unless_finished : (t : Bool) (r : Prefix) → t ≡ false → r ≢ Incomplete
    → cond t Incomplete r ≢ Incomplete
unless_finished true r is_false finished incomplete = absurd (let no = is_false in cc)
unless_finished false r is_false finished incomplete = finished incomplete
