-- Elements that are put in the place of as many of a slice, from an offset on.
use Rattle.std.proofs.Common.{◌≡◌, ℕ, ◌+◌, ◌-◌, ◌≤◌, ◌<◌, suc, List, [], ◌∷◌, ◌++◌, length, take, drop, ap, ◌∙◌, sym}
use Rattle.std.proofs.Common.{arith, refl, append_assoc, append-nil, drop-drop, length-drop}
use Rattle.std.proofs.Math.ListN.{set, drop_of_length-le}
use Rattle.std.proofs.lemmas.List.{take_all, length-take-le, set_split, take-append-le, take-take}
use Rattle.std.proofs.lemmas.Simd.{put_chunk_is}
use Rattle.std.proofs.lemmas.Slice.{drop-append-drop}
use Rattle.std.proofs.Math.Seq.{take-append_seam, take-append-add}
use Rattle.enc_utf8.proofs.LengthLemmas.{lengths, rest_is}
use lib.Lanes.{put_chunk}
use borrow.Rule.Slice.PartMut.{put_mid}

-- n bytes from `at` on have taken the place of those there
pub record Put (at n : ℕ) (before bytes after : List ℕ) : Type 0 where
  pub count : n ≡ length bytes
  pub fits : at + n ≤ length before
  pub onto : after ≡ take at before ++ (bytes ++ drop (at + n) before)

module _ {at n : ℕ} {before bytes after : List ℕ} (put : Put at n before bytes after) where
  front_and_rest : after ≡ (take at before ++ bytes) ++ drop (at + n) before
  front_and_rest = put.onto ∙ sym (append_assoc (take at before) bytes (drop (at + n) before))

  front_long : length (take at before ++ bytes) ≡ at + n
  front_long = omega (arith, lengths, put.count, put.fits)

  pub put_length : length after ≡ length before
  put_length = omega (arith, ap length front_and_rest, lengths, put.count, put.fits)

  pub put_front : take (at + n) after ≡ take at before ++ bytes
  put_front =
      ap (take (at + n)) front_and_rest
      ∙ ap (λ m. take m ((take at before ++ bytes) ++ drop (at + n) before)) (sym front_long)
      ∙ take-append_seam (take at before ++ bytes) (drop (at + n) before)

  pub put_rest : (m : ℕ) → at + n ≤ m → drop m after ≡ drop m before
  put_rest m beyond =
      ap (drop m) front_and_rest
      ∙ drop-append-drop (at + n) before (take at before ++ bytes) m beyond front_long

  -- more are put after them
  pub put_more : {k : ℕ} {more last : List ℕ} → Put (at + n) k after more last
      → Put at (n + k) before (bytes ++ more) last
  put_more {k} {more} then_more =
      let place : at + n + k ≡ at + (n + k) = omega arith in
      let rest = put_rest (at + n + k) (omega arith) ∙ ap (λ m. drop m before) place in
      record {
        count = omega (arith, lengths, put.count, then_more.count);
        fits = omega (arith, then_more.fits, put_length);
        onto = then_more.onto ∙ rw (put_front, rest, append_assoc, append_assoc) refl;
      }

-- by a store of one
pub put_one : (at byte : ℕ) (before : List ℕ) → at < length before
    → Put at 1 before (byte ∷ []) (set before at byte)
put_one at byte before inside =
    let next : suc at ≡ at + 1 = omega arith in
    record {
      count = refl;
      fits = omega arith;
      onto = set_split before at byte inside ∙ ap (λ m. take at before ++ (byte ∷ drop m before))
          next;
    }

-- by a store of lanes
pub put_lanes : (m at : ℕ) (before lanes : List ℕ) → at + m ≤ length before → length lanes ≡ m
    → Put at m before (take m lanes) (put_chunk at before lanes)
put_lanes m at before lanes fits long = record {
  count = sym (length-take-le m lanes (omega arith));
  fits = fits;
  onto = put_chunk_is at before lanes (omega arith)
      ∙ rw (long, drop-drop m at before, take_all m lanes (omega arith)) refl;
}

-- by a copy to a part of a slice
pub put_part : (at n : ℕ) (before : List ℕ) {new bytes : List ℕ} → new ≡ bytes → n ≡ length bytes
    → at + n ≤ length before → Put at n before bytes (put_mid at (at + n - at) before new)
put_part at n before {new} {bytes} copied count fits =
    let part : at + n - at ≡ n = omega arith in
    record {
      count = count;
      fits = fits;
      onto = rw (copied, part, drop-drop n at before) refl;
    }

-- by a copy to the front of the rest of a slice
pub put_copied : (at n : ℕ) (before src new : List ℕ) → at ≤ length before → n ≤ length src
    → n ≤ length before - at
    → new ≡ take n src ++ drop n (take (length before - at) (drop at before))
    → Put at n before (take n src) (put_mid at (length before - at) before new)
put_copied at n before src new within read room copied =
    let left = length-drop at before in
    record {
      count = sym (length-take-le n src read);
      fits = omega arith;
      onto =
          ap (λ z. take at before ++ (new ++ z))
          (drop_of_length-le (drop at before) (omega (arith, left)))
          ∙ rw (append-nil new, copied, rest_is at before, drop-drop n at before) refl;
    }

-- a list that is stored after what was there

-- the first units that are stored
pub stored_front : (at n : ℕ) (old ys zs : List ℕ) → at ≤ length old → n ≤ length ys
    → take (at + n) (take at old ++ (ys ++ zs)) ≡ take at old ++ take n ys
stored_front at n old ys zs within few =
    let count : at + n ≡ length (take at old) + n = omega (arith, lengths) in
    ap (λ m. take m (take at old ++ (ys ++ zs))) count
    ∙ take-append-add (take at old) (ys ++ zs) n
    ∙ ap (λ z. take at old ++ z) (take-append-le n ys zs few)

pub stored_lanes : (at n : ℕ) (old ys : List ℕ) → at + length ys ≤ length old → n ≤ length ys
    → take (at + n) (put_chunk at old ys) ≡ take at old ++ take n ys
stored_lanes at n old ys h k =
    ap (take (at + n)) (put_chunk_is at old ys h) ∙ stored_front at n old ys _ (omega arith) k

-- the first n elements of a slice of m
pub stored_slice : (at n m : ℕ) (old src : List ℕ) → m ≤ length src → at + m ≤ length old → n ≤ m
    → take (at + n) (put_chunk at old (take m src)) ≡ take at old ++ take n src
stored_slice at n m old src read room few =
    let long = length-take-le m src read in
    stored_lanes at n old (take m src) (omega arith) (omega arith)
    ∙ ap (λ z. take at old ++ z) (take-take n m src few)
