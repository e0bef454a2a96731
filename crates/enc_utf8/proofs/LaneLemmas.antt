-- How many of some lanes come before the first that passes a test, by the mask of those that do.
use Rattle.std.proofs.Common.{◌≡◌, ℕ, zero, suc, ◌+◌, ◌*◌, ◌/◌, ◌%◌, ◌^◌, ◌<◌, ◌≤◌, ◌≢◌, Bool, true, false, not}
use Rattle.std.proofs.Common.{◌||◌, take-add, leb, leb-false, cond, eqb, eqb-true, eq-eqb, List, [], ◌∷◌, map, length}
use Rattle.std.proofs.Common.{get_or, replicate, take, drop, bit_or, refl, ap, ◌∙◌, sym, subst, arith, inl, inr}
use Rattle.std.specs.Prelude.{All}
use Rattle.std.specs.List.{prefix_len}
use Rattle.std.proofs.lemmas.Bool.Decides.{nat_tests}
use Rattle.std.proofs.lemmas.Bool.{not-true, not-false, lt-leb, cases_eq, cases_lt, true≢false}
use Rattle.std.proofs.lemmas.List.{get_or-take, take-take, take_all, get_or_default}
use Rattle.std.proofs.lemmas.List.Elements.{All-append, All-cons, All-head, All-more, All-nil, All-tail}
use Rattle.std.proofs.lemmas.List.Sums.{prefix_len_passes, prefix_len_stops, prefix_len-le-length}
use Rattle.std.proofs.lemmas.Nat.{le_or_l, le_or_r}
use Rattle.std.proofs.lemmas.Simd.{leading_from_mask_l, trailing_mask_l}
use Rattle.std.proofs.Math.Nat.{div-one, zero-div, pow-suc, mul_comm, div-div-eq-div-mul}
use lib.Count.{count_trailing_zeros}
use lib.Lanes.{zip2, mask_l, top}
use mir.Syntax.{Width}
use mir.Val.{hbits}
use Rattle.enc_utf8.proofs.LengthLemmas.{lengths}
use Rattle.enc_utf8.specs.Validity.{AreAscii, AreIso2022JpAscii}
use Rattle.enc_utf8.proofs.Lanes.{itself, splat_over, by_op, flag, mask_of}

-- the mask of a comparison whose first side is a splat
pub splat_mask_of : (n : ℕ) → n ≤ 64 → (w : Width) (t : ℕ → ℕ → Bool) (y : ℕ) (xs : List ℕ)
    → length xs ≡ n
    → mask_l (map (top (hbits w)) (zip2 (flag w t) (replicate n y) xs)) % 2 ^ 64
    ≡ mask_l (map (t y) xs)
splat_mask_of n few w t y xs long =
    mask_of w (t y) (by_op (splat_over xs n y long) (itself xs) (flag w t)) (omega arith)

-- the first n lanes fail the test
pub record AreBefore (p : ℕ → Bool) (xs : List ℕ) (n : ℕ) : Type 0 where
  pub bound : n ≤ length xs
  pub fail : All (λ x. p x ≡ false) (take n xs)
  pub some : p (get_or xs 0 0) ≡ false → 0 < length xs → 0 < n
  pub stops : n < length xs → p (get_or xs n 0) ≡ true

front_fails : (p : ℕ → Bool) (xs : List ℕ) (n : ℕ) → n ≤ prefix_len (λ x. not (p x)) xs
    → All (λ x. p x ≡ false) (take n xs)
front_fails p xs n reaches k d inside =
    let in_front : k < n = omega (arith, lengths) in
    subst (λ x. p x ≡ false) (sym (get_or-take n xs k d in_front))
    (not-true _ (prefix_len_passes (λ x. not (p x)) xs k d (omega arith)))

module _ (p : ℕ → Bool) (xs : List ℕ) (n : ℕ) (long : length xs ≡ n) (few : n ≤ 64) (mask : ℕ)
    (is : mask ≡ mask_l (map p xs)) where
  before : (m : ℕ) → m ≡ prefix_len (λ x. not (p x)) xs → AreBefore p xs m
  before m all = record {
    bound = omega (arith, prefix_len-le-length (λ x. not (p x)) xs);
    fail = front_fails p xs m (omega arith);
    some = λ first_fails some. elim (cases_lt 0 m) [
      | inl here ↦ here
      | inr none ↦
          let stops = prefix_len_stops (λ x. not (p x)) xs 0 (omega arith) in
          let none_before : prefix_len (λ x. not (p x)) xs ≡ 0 = omega arith in
          absurd (true≢false (sym (not-false _ (rw none_before at stops)) ∙ first_fails))
    ];
    stops = λ inside.
        rw all (not-false _ (prefix_len_stops (λ x. not (p x)) xs 0 (omega arith)));
  }

  pub none_passes : mask ≡ 0 → AreBefore p xs n
  none_passes none = before n (omega (arith, leading_from_mask_l p xs (sym is ∙ none)))

  pub some_passes : (mask ≡ 0 → ⊥) → AreBefore p xs (count_trailing_zeros 64 mask)
  some_passes some =
      before _
      (ap (count_trailing_zeros 64) is ∙ trailing_mask_l p 64 xs (omega arith) (omega arith))

-- no bit is set if no lane passes
no_bit : (p : ℕ → Bool) (xs : List ℕ) → All (λ x. p x ≡ false) xs → mask_l (map p xs) ≡ 0
no_bit p [] fail = refl
no_bit p (x ∷ xs) fail =
    let here : p x ≡ false = fail 0 0 (omega arith) in
    rw here (omega (arith, no_bit p xs (λ k d l. fail (suc k) d (omega arith))))

-- lanes that are not ASCII

pub ascii_before : {xs : List ℕ} {n : ℕ} → AreBefore (leb 128) xs n → AreAscii (take n xs)
ascii_before before k d inside = leb-false _ _ (before.fail k d inside)

module _ (w : Width) (n : ℕ) (few : n ≤ 64) (xs : List ℕ) (long : length xs ≡ n) where
  abbrev others : ℕ
  others = mask_l (map (top (hbits w)) (zip2 (flag w leb) (replicate n 128) xs)) % 2 ^ 64

  pub no_others : others ≡ 0 → AreAscii (take n xs)
  no_others none =
      ascii_before
      (none_passes (leb 128) xs n long few others (splat_mask_of n few w leb 128 xs long) none)

  pub before_others : (others ≡ 0 → ⊥) → AreBefore (leb 128) xs (count_trailing_zeros 64 others)
  before_others =
      some_passes (leb 128) xs n long few others (splat_mask_of n few w leb 128 xs long)

  pub ascii_of_mask : eqb others 0 ≡ true → AreAscii xs
  ascii_of_mask none =
      subst AreAscii (take_all n xs (omega arith)) (no_others (eqb-true _ _ none))

  pub mask_of_ascii : AreAscii xs → eqb others 0 ≡ true
  mask_of_ascii ascii =
      eq-eqb others 0 (splat_mask_of n few w leb 128 xs long
      ∙ no_bit (leb 128) xs (λ k d l. lt-leb _ _ (ascii k d l)))

-- a mask shifted right is that of the lanes after the first k
pub mask_after : (k : ℕ) (ms : List Bool) → mask_l ms / 2 ^ k ≡ mask_l (drop k ms)
mask_after zero ms = div-one (mask_l ms)
mask_after (suc k) [] = zero-div (2 ^ suc k)
mask_after (suc k) (m ∷ ms) =
    ap (λ n. mask_l (m ∷ ms) / n) (pow-suc 2 k ∙ mul_comm (2 ^ k) 2)
    ∙ sym (div-div-eq-div-mul (mask_l (m ∷ ms)) 2 (2 ^ k))
    ∙ ap (λ n. n / 2 ^ k) (half m (mask_l ms)) ∙ mask_after k ms
  where
    half : (b : Bool) (n : ℕ) → (cond b 1 0 + 2 * n) / 2 ≡ n
    half true n = omega arith
    half false n = omega arith

-- no lane passes before the lowest bit of the mask of those that do
pub before_lowest : (p : ℕ → Bool) (xs : List ℕ) (n : ℕ) → length xs ≤ 64 → n ≤ length xs
    → n ≤ count_trailing_zeros 64 (mask_l (map p xs)) → All (λ x. p x ≡ false) (take n xs)
before_lowest p xs n few within lowest =
    front_fails p xs n (elim (cases_eq (mask_l (map p xs)) 0) [
      | inl none ↦ omega (arith, leading_from_mask_l p xs none)
      | inr some ↦ omega (arith, trailing_mask_l p 64 xs few (omega arith))
    ])

-- a property of the first m elements holds of fewer
pub all_fewer : (P : ℕ → Type 0) (n m : ℕ) (xs : List ℕ) → n ≤ m → All P (take m xs)
    → All P (take n xs)
all_fewer P n m xs h a = subst (All P) (take-take n m xs h) (λ k d l.
    let short : k < n = omega (arith, lengths) in
    subst P (sym (get_or-take n (take m xs) k d short))
    (a k d (omega (arith, lengths))))

-- and, if n elements more have it, of all these
pub all_more : (P : ℕ → Type 0) (i n : ℕ) (xs : List ℕ) → All P (take i xs)
    → All P (take n (drop i xs)) → All P (take (i + n) xs)
all_more P i n xs first more =
    subst (All P) (sym (take-add i n xs))
    (All-append P (take i xs) (take n (drop i xs)) first more)

abbrev IsUnshifted : ℕ → Type 0
IsUnshifted b = (b < 0x80) × (b ≢ 0x0E) × (b ≢ 0x0F) × (b ≢ 0x1B)

-- the first n of sixteen bytes, before one that is not ASCII, a shift or an escape
pub unshifted : (xs : List ℕ) (n a b c d : ℕ) → n ≤ a → n ≤ b → n ≤ c → n ≤ d
    → All (λ x. x < 0x80) (take a xs)
    → All (λ x. x ≢ 0x0E) (take b xs)
    → All (λ x. x ≢ 0x0F) (take c xs) → All (λ x. x ≢ 0x1B) (take d xs)
    → AreIso2022JpAscii (take n xs)
unshifted xs n a b c d la lb lc ld ascii out in_ escape k e h = (
  all_fewer (λ x. x < 0x80) n a xs la ascii k e h,
  all_fewer (λ x. x ≢ 0x0E) n b xs lb out k e h,
  all_fewer
      (λ x. x ≢ 0x0F) n c xs lc in_ k e h,
  all_fewer (λ x. x ≢ 0x1B) n d xs ld escape k e h,
)

-- sixteen lanes without one of these

abbrev is_special : ℕ → Bool
is_special b = (eqb b 0x0E || eqb b 0x0F) || (leb 0x80 b || eqb b 0x1B)

not_special : (b : ℕ) → is_special b ≡ false → IsUnshifted b
not_special b e = grind (arith, nat_tests)

pub unshifted_lanes : (xs : List ℕ) → length xs ≡ 16
    → ((k : ℕ) → k < 16 → is_special (get_or xs k 0) ≡ false) → AreIso2022JpAscii xs
unshifted_lanes xs long none k d inside =
    subst IsUnshifted (get_or_default xs k 0 d inside)
    (not_special (get_or xs k 0) (none k (omega arith)))

-- n bytes more
pub unshifted_more : (i n : ℕ) (xs : List ℕ) → AreIso2022JpAscii (take i xs)
    → AreIso2022JpAscii (take n (drop i xs)) → AreIso2022JpAscii (take (i + n) xs)
unshifted_more = all_more IsUnshifted

pub unshifted_one : (i : ℕ) (xs : List ℕ) → AreIso2022JpAscii (take i xs) → i < length xs
    → IsUnshifted (get_or xs i 0) → AreIso2022JpAscii (take (i + 1) xs)
unshifted_one i xs front inside here = All-more IsUnshifted xs i 0 inside front here

-- lanes of both lists, where each bit of either is set, are below a number
pub both_below : (n : ℕ) (us vs : List ℕ) → length us ≡ length vs
    → All (λ u. u < n) (zip2 bit_or us vs) → All (λ u. u < n) us × All (λ u. u < n) vs
both_below n [] [] same below =
    (All-nil (λ u. u < n), All-nil (λ u. u < n))
both_below n [] (v ∷ vs) same below = absurd (omega arith)
both_below n (u ∷ us) [] same below = absurd (omega arith)
both_below n (u ∷ us) (v ∷ vs) same below =
    let here : bit_or u v < n =
    All-head (λ u. u < n) (bit_or u v) (zip2 bit_or us vs) below in
    let rest = both_below n us vs (omega arith)
    (All-tail (λ u. u < n) (bit_or u v) (zip2 bit_or us vs) below) in (
      All-cons (λ u. u < n) u us (omega (arith, here, le_or_l u v)) rest.0,
      All-cons (λ u. u < n) v vs (omega (arith, here, le_or_r u v)) rest.1,
    )
