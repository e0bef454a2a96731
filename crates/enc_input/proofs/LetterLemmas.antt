-- Code units that are ASCII or letters, in lanes, and their bytes.
use Rattle.std.proofs.Common.{◌≡◌, ℕ, ◌+◌, ◌-◌, ◌^◌, ◌%◌, ◌<◌, ◌≤◌, ◌&&◌, ◌||◌, Bool, true, false, cond, eqb, eqb-true}
use Rattle.std.proofs.Common.{leb, ltb, List, [], ◌∷◌, map, length, get_or, take, drop, bit_and, bit_or, refl, ap}
use Rattle.std.proofs.Common.{◌∙◌, sym, subst, arith, inl, inr, w16, take-append-drop}
use Rattle.std.specs.Prelude.{All}
use Rattle.std.specs.Char.{IsScalar}
use Rattle.std.specs.Char.Utf16.{utf16_lossy_chars}
use Rattle.std.proofs.lemmas.Bool.{cases_lt}
use Rattle.std.proofs.lemmas.Bool.Decides.{nat_tests}
use Rattle.std.proofs.lemmas.List.{take_all, get_or-take, get_or_default}
use Rattle.std.proofs.lemmas.Nat.{and_mask}
use Rattle.std.proofs.Math.Utf8.{low_scalar}
use Rattle.enc_utf8.specs.declared.letters.Letters.{Letters}
use Rattle.enc_utf8.specs.Letters.{AreLetters}
use Rattle.enc_utf8.specs.Pieces.{KeepsAscii}
use Rattle.enc_utf8.specs.Text.{units_of_text}
use Rattle.enc_utf8.proofs.Lanes.{IsLanes, by_op, mask_of}
use Rattle.enc_utf8.proofs.LaneLemmas.{none_passes}
use Rattle.enc_utf8.proofs.LengthLemmas.{lengths}
use Rattle.enc_utf8.proofs.PutLemmas.{Put}
use Rattle.enc_utf8.proofs.ScalarLemmas.{scalars_are}
use Rattle.enc_utf8.proofs.UnitsLemmas.{lossy_scalars}
use Rattle.enc_input.specs.Letters.{IsPlainUnit, letter_byte, plain_byte}
use Rattle.enc_input.specs.Mappings.{AreAnyUnits, WritesFront}
use Rattle.enc_input.proofs.MappingLemmas.{maps_by}
use lib.Lanes.{zip2, mask_l, top}

abbrev pub sub16 : ℕ → ℕ → ℕ
sub16 a b = (a + (0x1_0000 - b)) % 0x1_0000

pub low_eight : (u : ℕ) → bit_and u 0xFF ≡ u % 0x100
low_eight u = and_mask u 8

-- lanes that are flags, by the tests of code units

abbrev AreFlags : List ℕ → List ℕ → (ℕ → Bool) → Type 0
AreFlags us m t = IsLanes us m (λ u. cond (t u) 0xFFFF 0)

module _ {us : List ℕ} (t v : ℕ → Bool) {a b : List ℕ} (first : AreFlags us a t)
    (second : AreFlags us b v) where
  pub both : AreFlags us (zip2 bit_and a b) (λ u. t u && v u)
  both = record {
    is = (by_op first second bit_and).is ∙ ap (λ f. map f us) (λ i u. and_flag (t u) (v u) i);
  }
    where
      and_flag : (a b : Bool) → bit_and (cond a 0xFFFF 0) (cond b 0xFFFF 0)
          ≡ cond (a && b) 0xFFFF 0
      and_flag true true = refl
      and_flag true false = refl
      and_flag false true = refl
      and_flag false false = refl

  pub either : AreFlags us (zip2 bit_or a b) (λ u. t u || v u)
  either = record {
    is = (by_op first second bit_or).is ∙ ap (λ f. map f us) (λ i u. or_flag (t u) (v u) i);
  }
    where
      or_flag : (a b : Bool) → bit_or (cond a 0xFFFF 0) (cond b 0xFFFF 0)
          ≡ cond (a || b) 0xFFFF 0
      or_flag true true = refl
      or_flag true false = refl
      or_flag false true = refl
      or_flag false false = refl

-- no flag is set if the mask is 0
pub none_set : {us m : List ℕ} (t : ℕ → Bool) → AreFlags us m t → length us ≡ 16
    → eqb (mask_l (map (top 15) m) % 2 ^ 64) 0 ≡ true → All (λ u. t u ≡ false) us
none_set {us} t flags long none =
    subst (All (λ u. t u ≡ false)) (take_all 16 us (omega arith))
    (none_passes t us 16 long (omega arith) _ (mask_of w16 t flags (omega arith))
    (eqb-true _ 0 none)).fail

-- code units that are none of the others

plain_unit : (letters : Letters) (u : ℕ) → (leb 0x80 u && (ltb (letter_byte letters u) letters.first
    || ltb letters.last (letter_byte letters u))) ≡ false → IsPlainUnit letters u
plain_unit letters u none = elim (cases_lt u 0x80) [
  | inl low ↦ inl low
  | inr high ↦ inr (grind (arith, nat_tests, none, high), grind (arith, nat_tests, none, high))
]

pub plain_units : (letters : Letters) (us : List ℕ)
    → All (λ u. (leb 0x80 u && (ltb (letter_byte letters u) letters.first
    || ltb letters.last (letter_byte letters u))) ≡ false) us → All (IsPlainUnit letters) us
plain_units letters us none k d inside = plain_unit letters (get_or us k d) (none k d inside)

one_each : (f : ℕ → ℕ) (us : List ℕ) → units_of_text (λ u. f u ∷ []) us ≡ map f us
one_each f [] = refl
one_each f (u ∷ us) = ap (λ z. f u ∷ z) (one_each f us)

-- the byte of a code unit that is ASCII or a letter
module _ {Means : List ℕ → ℕ → Type 0} (letters : Letters) (are : AreLetters Means letters)
    (keeps : KeepsAscii Means) (few : letters.last < 0x100) where
  abbrev Has : ℕ → Type 0
  Has u = Means (plain_byte letters u ∷ []) u × IsScalar u

  has_ascii : (u : ℕ) → u < 0x80 → Has u
  has_ascii u low =
      let byte : plain_byte letters u ≡ u = grind (arith, nat_tests, low) in
      (subst (λ b. Means (b ∷ []) u) (sym byte) (keeps u low), low_scalar u (omega (arith, low)))

  has_letter : (u : ℕ) → 0x80 ≤ u → u < 0x1_0000 → letters.first ≤ letter_byte letters u
      → letter_byte letters u ≤ letters.last → Has u
  has_letter u high fits from most =
      let is = are (letter_byte letters u) from most in
      let unit : letter_byte letters u + letters.shift ≡ u = omega (arith, is.1, fits) in
      let byte : plain_byte letters u ≡ letter_byte letters u =
      grind (arith, nat_tests, high, most, few) in (
        subst (λ b. Means (b ∷ []) u) (sym byte)
            (subst (Means (letter_byte letters u ∷ [])) unit is.0.means),
        subst IsScalar unit is.0.scalar,
      )

  has_plain : (u : ℕ) → u < 0x1_0000 → IsPlainUnit letters u → Has u
  has_plain u fits (inl low) = has_ascii u low
  has_plain u fits (inr letter) = elim (cases_lt u 0x80) [
    | inl low ↦ has_ascii u low
    | inr high ↦ has_letter u high fits letter.0 letter.1
  ]

  -- sixteen of them are written
  pub plain_written : {src before after bytes : List ℕ} {at : ℕ} → 16 ≤ length src
      → ((k : ℕ) → get_or src k 0 < 0x1_0000) → All (IsPlainUnit letters) (take 16 src)
      → bytes ≡ map (plain_byte letters) (take 16 src) → Put at 16 before bytes after
      → WritesFront utf16_lossy_chars AreAnyUnits Means src before after at 16 16
  plain_written {src} within fit plain bytes_are put =
      let us = take 16 src in
      let each : All Has us = λ k d inside.
      let here = get_or-take 16 src k d (omega (arith, lengths))
      ∙ get_or_default src k d 0 (omega (arith, lengths)) in
      has_plain (get_or us k d) (rw here (fit k)) (plain k d inside) in
      record {
        within = within;
        rest = tt;
        writes = maps_by (λ u. plain_byte letters u ∷ []) us (λ k d inside. (each k d inside).0)
            (ap utf16_lossy_chars (sym (take-append-drop 16 src))
            ∙ lossy_scalars us (drop 16 src) (scalars_are us (λ k d inside. (each k d inside).1)))
            (bytes_are ∙ sym (one_each (plain_byte letters) us)) put;
      }
