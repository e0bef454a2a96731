-- Lanes of vectors, each computed from an element of one list, and the masks of tests of lanes.
use Rattle.std.proofs.Common.{◌≡◌, ℕ, ◌-◌, ◌/◌, ◌%◌, ◌^◌, ◌<◌, ◌≤◌, Bool, true, false, ◌||◌, cond, eqb, leb}
use Rattle.std.proofs.Common.{List, [], ◌∷◌, map, length, get_or, replicate, bit_or, refl, ap, ◌∙◌, sym, arith}
use Rattle.std.proofs.Common.{eqb-true, w8}
use Rattle.std.proofs.lemmas.List.{get_or-map, length-map, map-id}
use Rattle.std.proofs.lemmas.List.FromFn.{get_or-range_with_len}
use Rattle.std.proofs.lemmas.Simd.{mask_l-mod, zip2_of_maps, zip2-map, splat_is_map, pick_l_whole, tops_compared}
use Rattle.std.proofs.lemmas.Simd.{none_from_empty_mask, bit_mask_l}
use Rattle.std.specs.List.{range_with_len}
use lib.Lanes.{zip2, mask_l, top, sel_l}
use mir.Syntax.{Width}
use mir.Val.{bits, hbits}

-- each lane is computed from the element of ks at its place
pub record IsLanes (ks xs : List ℕ) (f : ℕ → ℕ) : Type 0 where
  pub is : xs ≡ map f ks

pub itself : (xs : List ℕ) → IsLanes xs xs (λ x. x)
itself xs = record { is = sym (map-id xs) }

pub splat_over : (ks : List ℕ) (n x : ℕ) → length ks ≡ n → IsLanes ks (replicate n x) (λ _. x)
splat_over ks n x long = record { is = splat_is_map ks n x long }

-- the lanes of a test
abbrev pub flag : Width → (ℕ → ℕ → Bool) → ℕ → ℕ → ℕ
flag w t a b = cond (t a b) (2 ^ bits w - 1) 0

module _ {ks xs : List ℕ} {f : ℕ → ℕ} (first : IsLanes ks xs f) where
  pub by_op : {ys : List ℕ} {g : ℕ → ℕ} → IsLanes ks ys g → (op : ℕ → ℕ → ℕ)
      → IsLanes ks (zip2 op xs ys) (λ k. op (f k) (g k))
  by_op {g = g} second op = record { is = zip2_of_maps op f g ks first.is second.is }

  pub widened : IsLanes ks (map (λ x. x) xs) f
  widened = record { is = map-id xs ∙ first.is }

choices : (t : ℕ → Bool) (f g : ℕ → ℕ) (ks : List ℕ)
    → sel_l (map t ks) (map f ks) (map g ks) ≡ map (λ k. cond (t k) (f k) (g k)) ks
choices t f g [] = refl
choices t f g (k ∷ ks) = ap (λ z. cond (t k) (f k) (g k) ∷ z) (choices t f g ks)

module _ {ks : List ℕ} (w : Width) (t : ℕ → Bool) {m : List ℕ}
    (flags : IsLanes ks m (λ k. cond (t k) (2 ^ bits w - 1) 0)) where
  tests_are : map (top (hbits w)) m ≡ map t ks
  tests_are =
      ap (map (top (hbits w)))
      (flags.is ∙ sym (zip2-map (λ a b. cond a (2 ^ bits w - 1) 0) t t ks))
      ∙ tops_compared w (λ a b. a) (map t ks) (map t ks) ∙ zip2-map (λ a b. a) t t ks

  pub chosen : {f g : ℕ → ℕ} {xs ys : List ℕ} → IsLanes ks xs f → IsLanes ks ys g
      → IsLanes ks (sel_l (map (top (hbits w)) m) xs ys) (λ k. cond (t k) (f k) (g k))
  chosen {f} {g} first second =
      record { is = rw (tests_are, first.is, second.is) (choices t f g ks) }

  pub mask_of : length ks ≤ 64 → mask_l (map (top (hbits w)) m) % 2 ^ 64 ≡ mask_l (map t ks)
  mask_of few =
      ap (λ ms. mask_l ms % 2 ^ 64) tests_are
      ∙ mask_l-mod (map t ks) 64 (omega (arith, length-map ks t))

-- sixteen lanes, by their places

abbrev pub places : List ℕ
places = range_with_len 0 16

place_at : (k : ℕ) → k < 16 → get_or places k 0 ≡ k
place_at k below = get_or-range_with_len 0 16 k 0 below ∙ omega arith

pub lane_at : {xs : List ℕ} {f : ℕ → ℕ} → IsLanes places xs f → (k : ℕ) → k < 16
    → get_or xs k 0 ≡ f k
lane_at {f = f} lanes k below =
    ap (λ z. get_or z k 0) lanes.is ∙ get_or-map f places k 0 0 (omega arith)
    ∙ ap f (place_at k below)

pub own : (xs : List ℕ) → length xs ≡ 16 → IsLanes places xs (λ k. get_or xs k 0)
own xs long = record { is = sym (pick_l_whole 0 xs 16 long) }

pub splat : (x : ℕ) → IsLanes places (replicate 16 x) (λ _. x)
splat x = splat_over places 16 x refl

-- lanes of bytes that are flags

abbrev pub IsFlags : List ℕ → (ℕ → Bool) → Type 0
IsFlags m t = IsLanes places m (λ k. cond (t k) 255 0)

pub compared : (t : ℕ → ℕ → Bool) (n : ℕ) (xs : List ℕ) → length xs ≡ 16
    → IsFlags (zip2 (flag w8 t) xs (replicate 16 n)) (λ k. t (get_or xs k 0) n)
compared t n xs long = by_op (own xs long) (splat n) (flag w8 t)

pub at_least : (n : ℕ) (xs : List ℕ) → length xs ≡ 16
    → IsFlags (zip2 (flag w8 leb) (replicate 16 n) xs) (λ k. leb n (get_or xs k 0))
at_least n xs long = by_op (splat n) (own xs long) (flag w8 leb)

pub either : (t u : ℕ → Bool) {a b : List ℕ} → IsFlags a t → IsFlags b u
    → IsFlags (zip2 bit_or a b) (λ k. t k || u k)
either t u first second = record {
  is = (by_op first second bit_or).is ∙ ap (λ f. map f places) (λ i k. or_flag (t k) (u k) i);
}
  where
    or_flag : (a b : Bool) → bit_or (cond a 255 0) (cond b 255 0) ≡ cond (a || b) 255 0
    or_flag true true = refl
    or_flag true false = refl
    or_flag false true = refl
    or_flag false false = refl

module _ (t : ℕ → Bool) {m : List ℕ} (flags : IsFlags m t) (k : ℕ) (below : k < 16) where
  -- no flag is set if the mask is 0
  pub none_set : eqb (mask_l (map (top 7) m) % 2 ^ 64) 0 ≡ true → t k ≡ false
  none_set none =
      ap t (sym (place_at k below))
      ∙ none_from_empty_mask t places 0 16 0 (omega arith)
      (sym (mask_of w8 t flags (omega arith)) ∙ eqb-true _ _ none) k (omega arith) (omega arith)

  pub flag_bit : mask_l (map (top 7) m) % 2 ^ 64 / 2 ^ k % 2 ≡ cond (t k) 1 0
  flag_bit =
      ap (λ n. n / 2 ^ k % 2) (mask_of w8 t flags (omega arith)) ∙ bit_mask_l (map t places) k
      ∙ ap (λ u. cond u 1 0) (get_or-map t places k 0 false (omega arith)
      ∙ ap t (place_at k below))
