-- Lanes of ASCII bytes.
use Rattle.std.proofs.Common.{◌≡◌, ℕ, zero, suc, ◌+◌, ◌-◌, ◌<◌, ◌≤◌, false, leb, List, [], ◌∷◌, ◌++◌}
use Rattle.std.proofs.Common.{length, get_or, take, drop, refl, ap, ◌∙◌, sym, subst, arith, inl, inr}
use Rattle.std.proofs.Common.{take-add, drop-cons, append_assoc, drop-drop}
use Rattle.std.proofs.lemmas.Bool.{cases_lt}
use Rattle.std.proofs.lemmas.Bool.Decides.{nat_tests}
use Rattle.std.proofs.lemmas.List.{take-append-le, take-take, length-take-le, take_all, get_or-take, get_or-drop}
use Rattle.std.proofs.lemmas.List.Elements.{All-more}
use Rattle.std.proofs.Math.Seq.{drop-append_seam}
use Rattle.std.proofs.Math.ListN.{set}
use lib.Lanes.{put_chunk}
use borrow.Rule.Slice.PartMut.{put_mid}
use Rattle.enc_utf8.proofs.LaneLemmas.{all_more}
use Rattle.enc_utf8.proofs.LengthLemmas.{lengths, rest_is}
use Rattle.enc_utf8.proofs.PutLemmas.{Put, put_copied, put_lanes, put_one}
use Rattle.enc_utf8.specs.AsciiCopy.{CopiesAscii}
use Rattle.enc_utf8.specs.Validity.{AreAscii}

-- n bytes more are ASCII
pub ascii_more : (i n : ℕ) (xs : List ℕ) → AreAscii (take i xs) → AreAscii (take n (drop i xs))
    → AreAscii (take (i + n) xs)
ascii_more = all_more (λ b. b < 0x80)

pub one_ascii : (x : ℕ) → x < 128 → AreAscii (x ∷ [])
one_ascii x h zero d l = h
one_ascii x h (suc k) d l = absurd (omega arith)

pub ascii_one : (i : ℕ) (xs : List ℕ) → AreAscii (take i xs) → i < length xs → get_or xs i 0 < 128
    → AreAscii (take (i + 1) xs)
ascii_one i xs front inside low = All-more (λ b. b < 0x80) xs i 0 inside front low

-- nothing is copied yet
pub copies_none : (src dst : List ℕ) (most : ℕ) → CopiesAscii src dst dst most 0
copies_none src dst most = record {
  within = omega arith;
  ascii = λ k d inside. absurd (omega (arith, inside));
  copied = refl;
}

module _ {src old dst : List ℕ} {most at : ℕ} (copies : CopiesAscii src old dst most at)
    (read : most ≤ length src) (room : most ≤ length old) where
  copied_further : {n : ℕ} {new : List ℕ} → at + n ≤ most
      → Put at n dst (take n (drop at src)) new → new ≡ take (at + n) src ++ drop (at + n) old
  copied_further {n} {new} fits put =
      let long = length-take-le at src (omega (arith, copies.within)) in
      let front : take at dst ≡ take at src = ap (take at) copies.copied
      ∙ take-append-le at (take at src) (drop at old) (omega arith)
      ∙ take-take at at src (omega arith) in
      let rest : drop at dst ≡ drop at old =
      ap (drop at) copies.copied ∙ ap (λ k. drop k (take at src ++ drop at old)) (sym long)
      ∙ drop-append_seam (take at src) (drop at old) in
      put.onto ∙ ap (λ z. z ++ (take n (drop at src) ++ drop (at + n) dst)) front
      ∙ sym (append_assoc (take at src) (take n (drop at src)) (drop (at + n) dst))
      ∙ ap (λ z. z ++ drop (at + n) dst) (sym (take-add at n src))
      ∙ ap (λ z. take (at + n) src ++ z)
      (sym (drop-drop n at dst) ∙ ap (drop n) rest ∙ drop-drop n at old)

  dst_long : length dst ≡ length old
  dst_long = omega (arith, ap length copies.copied, lengths, copies.within)

  -- n bytes more are put after them
  pub copies_put : {n : ℕ} {new : List ℕ} → at + n ≤ most → AreAscii (take n (drop at src))
      → Put at n dst (take n (drop at src)) new → CopiesAscii src old new most (at + n)
  copies_put {n} fits ascii put = record {
    within = fits;
    ascii = ascii_more at n src copies.ascii ascii;
    copied = copied_further fits put;
  }

  pub copies_more : (n : ℕ) {lanes : List ℕ} → at + n ≤ most → lanes ≡ take n (drop at src)
      → AreAscii (take n (drop at src)) → CopiesAscii src old (put_chunk at dst lanes) most (at + n)
  copies_more n {lanes} fits are_lanes ascii =
      let long : length lanes ≡ n = omega (arith, ap length are_lanes, lengths) in
      let front = take_all n lanes (omega arith) ∙ are_lanes in
      copies_put fits ascii
      (rw front at (put_lanes n at dst lanes (omega (arith, dst_long)) long))

  pub copies_one : at < most → get_or src at 0 < 0x80
      → CopiesAscii src old (set dst at (get_or src at 0)) most (at + 1)
  copies_one fits low =
      let one : get_or src at 0 ∷ [] ≡ take 1 (drop at src) =
      ap (take 1) (sym (drop-cons src at 0 (omega arith))) in
      copies_put (omega arith) (subst AreAscii one (one_ascii (get_or src at 0) low))
      (rw one at (put_one at (get_or src at 0) dst (omega (arith, dst_long))))

  -- by a copy from the rest to the rest
  pub copies_on : {n : ℕ} {new : List ℕ}
      → CopiesAscii (take (length src - at) (drop at src)) (take (length dst - at) (drop at dst))
      new (most - at) n
      → CopiesAscii src old (put_mid at (length dst - at) dst new) most (at + n)
  copies_on {n} {new} more =
      let from = rest_is at src in
      copies_put (omega (arith, copies.within, more.within)) (rw from at more.ascii)
      (put_copied at n dst (drop at src) new (omega (arith, copies.within, dst_long))
      (omega (arith, lengths, more.within)) (omega (arith, dst_long, more.within))
      (rw from at more.copied))

pub low_fails : (x : ℕ) → x < 0x80 → leb 128 x ≡ false
low_fails x h = grind (arith, nat_tests)

-- all are ASCII if a prefix is, and so are the last n, which begin no later than its end
pub ascii_ends : (i n : ℕ) (xs : List ℕ) → AreAscii (take i xs) → length xs - n ≤ i
    → AreAscii (drop (length xs - n) xs) → AreAscii xs
ascii_ends i n xs front overlaps back k d h = elim (cases_lt k i) [
  | inl l ↦ subst (λ b. b < 0x80) (get_or-take i xs k d l)
      (front k d (omega (arith, lengths)))
  | inr g ↦
      let first = length xs - n in
      let place : first + (k - first) ≡ k = omega arith in
      subst (λ b. b < 0x80)
      (get_or-drop first xs (k - first) d ∙ ap (λ j. get_or xs j d) place)
      (back (k - first) d (omega (arith, lengths)))
]

pub ascii_all : (xs : List ℕ) → AreAscii xs → AreAscii (take (length xs) xs)
ascii_all xs a = subst AreAscii (sym (take_all (length xs) xs (omega arith))) a

-- n bytes more are ASCII, of m that were loaded
pub ascii_front : (i n m : ℕ) (xs : List ℕ) → AreAscii (take i xs) → n ≤ m
    → AreAscii (take n (take m (drop i xs))) → AreAscii (take (i + n) xs)
ascii_front i n m xs front few more =
    ascii_more i n xs front (subst AreAscii (take-take n m (drop i xs) few) more)

-- the byte after them is not ASCII, if the m bytes are not all ASCII
pub other_after : (i n m : ℕ) (xs : List ℕ) → n ≤ m → ¬ (AreAscii (take m (drop i xs)))
    → AreAscii (take n (take m (drop i xs)))
    → (n < m → 0x80 ≤ get_or (take m (drop i xs)) n 0) → 0x80 ≤ get_or xs (i + n) 0
other_after i n m xs few some front ends = elim (cases_lt n m) [
  | inl below ↦
      let here = get_or-take m (drop i xs) n 0 below ∙ get_or-drop i xs n 0 in
      omega (arith, ends below, here)
  | inr whole ↦
      let all : n ≡ m = omega arith in
      absurd (some (subst AreAscii (take-take n m (drop i xs) few
      ∙ ap (λ k. take k (drop i xs)) all) front))
]
