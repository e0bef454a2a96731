-- Code units of UTF-16 in eight lanes, and their UTF-8, as `unit_words.rt` computes them. A result
-- `(m : List ℕ) × …` says nothing by its type alone: its `_` is the list that the code computes,
-- found from the steps (`by_op`, `chosen`), and callers unfold it. So these stay `abbrev`.
use Rattle.std.proofs.Common.{◌≡◌, ℕ, ◌+◌, ◌*◌, ◌/◌, ◌%◌, ◌^◌, ◌<◌, ◌≤◌, Bool, false, cond, eqb, ltb, List, [], ◌∷◌}
use Rattle.std.proofs.Common.{map, length, All, w16, replicate, take, refl, ◌∙◌, arith, bit_and}
use Rattle.std.proofs.lemmas.Bool.Decides.{nat_tests}
use Rattle.std.proofs.lemmas.List.Elements.{All-tail}
use Rattle.std.proofs.lemmas.Nat.{and_mask}
use Rattle.std.proofs.lemmas.Simd.{Each1-chunk}
use Rattle.std.specs.Char.{IsScalar}
use Rattle.enc_utf8.specs.UnitWords.{unit_word_low, unit_word_high, unit_word}
use Rattle.enc_utf8.specs.Text.{AreScalars}
use Rattle.enc_utf8.proofs.LaneLemmas.{AreBefore, none_passes, some_passes}
use Rattle.enc_utf8.proofs.Lanes.{IsLanes, itself, splat_over, by_op, chosen, flag, mask_of, widened}
use Rattle.enc_utf8.proofs.ScalarLemmas.{scalars-cons}
use Rattle.enc_utf8.proofs.ByteLanes.{add16}
use lib.Count.{count_trailing_zeros}
use lib.Lanes.{Each1, mask_l, top}
use mir.Val.{Fits}

abbrev pub shl16 : ℕ → ℕ → ℕ
shl16 a b = (a * 2 ^ b) % 65536

abbrev pub shr16 : ℕ → ℕ → ℕ
shr16 a b = a / 2 ^ b

-- eight lanes that are x (`splat` of `Lanes` has sixteen)
pub all : (us : List ℕ) → length us ≡ 8 → (x : ℕ) → IsLanes us (replicate 8 x) (λ _. x)
all us long x = splat_over us 8 x long

-- the first surrogate

-- D800 to DFFF: the upper five bits are 27
abbrev is_surrogate : ℕ → Bool
is_surrogate u = eqb (u / 2048) 27

unit_is_scalar : (u : ℕ) → u < 65536 → is_surrogate u ≡ false → IsScalar u
unit_is_scalar u fits none = grind (arith, nat_tests)

units_are_scalars : (us : List ℕ) → Each1 (Fits w16) us → All (λ u. is_surrogate u ≡ false) us
    → AreScalars us
units_are_scalars [] fit none = refl
units_are_scalars (u ∷ us) fit none =
    scalars-cons u us (unit_is_scalar u fit.0.fits (none 0 0 (omega arith)))
    (units_are_scalars us fit.1 (All-tail (λ u. is_surrogate u ≡ false) u us none))

module _ (us : List ℕ) (long : length us ≡ 8) (fit : Each1 (Fits w16) us) where
  abbrev surrogates : (m : List ℕ) × IsLanes us m (λ u. cond (is_surrogate u) 65535 0)
  surrogates = (
    _,
    by_op (by_op (itself us) (all us long 11) shr16) (all us long 27) (flag w16 eqb),
  )

  abbrev mask : ℕ
  mask = mask_l (map (top 15) surrogates.0) % 2 ^ 64

  scalars_before : (n : ℕ) → AreBefore is_surrogate us n → AreScalars (take n us)
  scalars_before n before =
      units_are_scalars (take n us) (Each1-chunk (Fits w16) 0 n us fit) before.fail

  mask_is : mask ≡ mask_l (map is_surrogate us)
  mask_is = mask_of w16 is_surrogate surrogates.1 (omega arith)

  -- if no bit is set, all eight are scalar values
  pub all_before : mask ≡ 0 → AreScalars (take 8 us)
  all_before none =
      scalars_before 8 (none_passes is_surrogate us 8 long (omega arith) mask mask_is none)

  -- otherwise those before the first surrogate are, of which there may be none
  pub some_before : (mask ≡ 0 → ⊥)
      → (count_trailing_zeros 64 mask ≤ 8) × AreScalars (take (count_trailing_zeros 64 mask) us)
  some_before some =
      let before = some_passes is_surrogate us 8 long (omega arith) mask mask_is some in
      (omega (arith, before.bound), scalars_before _ before)

-- Of a code unit: the first two bytes of its UTF-8 (low, `fronts`), the third (high, `rests`), and
-- both as a word.

pub same_lanes : (f g : ℕ → ℕ) → ((u : ℕ) → u < 65536 → f u ≡ g u) → (us : List ℕ)
    → Each1 (Fits w16) us → map f us ≡ map g us
same_lanes f g same [] fit = refl
same_lanes f g same (u ∷ us) fit = rw (same u fit.0.fits, same_lanes f g same us fit.1) refl

pub front_is : (u : ℕ) → u < 65536
    → cond (ltb u 0x80) u (cond (ltb u 0x800)
    (add16 (add16 (shr16 u 6) 0x80C0) (shl16 (bit_and u 63) 8))
    (add16 (add16 (shr16 u 12) 0x80E0) (shl16 (bit_and (shr16 u 6) 63) 8))) ≡ unit_word_low u
front_is u fits =
    let last_six : bit_and u 63 ≡ u % 64 = and_mask u 6 in
    let middle_six : bit_and (u / 64) 63 ≡ u / 64 % 64 = and_mask (u / 64) 6 in
    rw (last_six, middle_six) (grind (arith, nat_tests))

pub rest_is : (u : ℕ) → u < 65536 → add16 (bit_and u 63) 0x80 ≡ unit_word_high u
rest_is u fits =
    let last_six : bit_and u 63 ≡ u % 64 = and_mask u 6 in
    rw last_six (omega arith)

pub low_below : (u : ℕ) → u < 65536 → unit_word_low u < 65536
low_below u fits = grind (arith, nat_tests)

pub high_below : (u : ℕ) → unit_word_high u < 256
high_below u = omega arith

pub joined : (low high : ℕ) → low < 65536 → high < 256
    → (low + (high * 2 ^ 16) % 4294967296) % 4294967296 ≡ low + high * 65536
joined low high low_fits high_fits = omega arith

module _ (us : List ℕ) (long : length us ≡ 8) (fit : Each1 (Fits w16) us) where
  abbrev below : (n : ℕ) → (m : List ℕ) × IsLanes us m (λ u. cond (ltb u n) 65535 0)
  below n = (_, by_op (itself us) (all us long n) (flag w16 ltb))

  abbrev pub fronts : (m : List ℕ) × (m ≡ map unit_word_low us)
  fronts =
      let own = itself us in
      let upper = by_op own (all us long 6) shr16 in
      let low = by_op (by_op own (all us long 63) bit_and) (all us long 8) shl16 in
      let middle = by_op (by_op upper (all us long 63) bit_and) (all us long 8) shl16 in
      let two = by_op (by_op upper (all us long 0x80C0) add16) low add16 in
      let highest = by_op own (all us long 12) shr16 in
      let three = by_op (by_op highest (all us long 0x80E0) add16) middle add16 in
      let more = chosen w16 _ (below 2048).1 two three in
      (_, (chosen w16 _ (below 128).1 own more).is ∙ same_lanes _ _ front_is us fit)

  abbrev pub rests : (m : List ℕ) × (m ≡ map unit_word_high us)
  rests =
      let low = by_op (itself us) (all us long 63) bit_and in
      (_, (by_op low (all us long 0x80) add16).is ∙ same_lanes _ _ rest_is us fit)

  abbrev pub words : {low high : List ℕ} → low ≡ map unit_word_low us
      → high ≡ map unit_word_high us → (m : List ℕ) × (m ≡ map unit_word us)
  words {low} {high} low_is high_is =
      let low_lanes : IsLanes us low unit_word_low = record { is = low_is } in
      let high_lanes : IsLanes us high unit_word_high = record { is = high_is } in
      let shifted = by_op (widened high_lanes) (all us long 16) (λ a b. (a * 2 ^ b) % 4294967296)
      in (
        _,
        (by_op (widened low_lanes) shifted (λ a b. (a + b) % 4294967296)).is
            ∙ same_lanes _ _ (λ u fits. joined _ _ (low_below u fits) (high_below u)) us fit,
      )
