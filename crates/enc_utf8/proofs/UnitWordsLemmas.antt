-- Code units of UTF-16 that are stored as UTF-8.
use Rattle.std.proofs.Common.{◌≡◌, ℕ, zero, suc, ◌+◌, ◌-◌, ◌≤◌, List, ◌∷◌, ◌++◌, map, length, take, replicate}
use Rattle.std.proofs.Common.{refl, ap, ◌∙◌, sym, subst, arith, append_assoc}
use Rattle.std.proofs.lemmas.List.{length-replicate, map-id, take_all, take-append-le, take-take}
use Rattle.std.proofs.lemmas.Simd.{take_more_put_chunk, Each1-get_or, Each1-chunk}
use Rattle.std.proofs.Math.Seq.{take-append_seam, take-append-add}
use Rattle.std.specs.Char.{encode_utf8}
use Rattle.std.specs.Char.Escape.{encode_utf16}
use Rattle.enc_utf8.proofs.PieceListLemmas.{own_text}
use Rattle.enc_utf8.specs.Text.{AreScalars, units_of_text}
use Rattle.enc_utf8.specs.Validity.{AreAscii}
use Rattle.enc_utf8.proofs.LengthLemmas.{append_length, take_length}
use Rattle.enc_utf8.proofs.ScalarLemmas.{scalars-append}
use Rattle.enc_utf8.proofs.UnitsLemmas.{one_unit, ascii_units, units-append}
use lib.Lanes.{Each1, put_chunk}
use mir.Syntax.{w16}
use mir.Val.{Fits}

-- code units that are ASCII, as bytes

pub stored_ascii : (at : ℕ) (old us : List ℕ) → length us ≡ 8 → at + 8 ≤ length old → AreAscii us
    → take (at + 8) (put_chunk at old (map (λ u. u) us)) ≡ take at old
    ++ units_of_text encode_utf8 us
stored_ascii at old us long room a =
    ap (λ z. take (at + 8) (put_chunk at old z)) (map-id us)
    ∙ take_more_put_chunk at old us (at + 8) (omega arith) room
    ∙ ap (λ z. take at old ++ z) (sym (ascii_units us a))

-- The first n of eight code units: each of the others is 0, which is stored as one byte.
zeros_text : (n : ℕ) → units_of_text encode_utf8 (replicate n 0) ≡ replicate n 0
unfolding encode_utf8
zeros_text zero = refl
zeros_text (suc n) = ap (λ bytes. 0 ∷ bytes) (zeros_text n)

module _ (n : ℕ) (us before new : List ℕ) {end : ℕ} {first : List ℕ} (within : end ≤ length new)
    (are : first ≡ take n us ++ replicate (8 - n) 0)
    (stored : take end new ≡ before ++ units_of_text encode_utf8 first) where
  abbrev front : List ℕ
  front = before ++ units_of_text encode_utf8 (take n us)

  front_and_zeros : take end new ≡ front ++ replicate (8 - n) 0
  front_and_zeros =
      stored ∙ rw (are, units-append, zeros_text) (sym (append_assoc before _ _))

  front_long : end ≡ length front + (8 - n)
  front_long = omega (
    arith,
    ap length front_and_zeros,
    take_length end new,
    append_length front (replicate (8 - n) 0),
    length-replicate {A = ℕ} (8 - n) 0,
    within,
  )

  pub others_stored : 8 - n ≤ end
  others_stored = omega (arith, front_long)

  pub front_stored : take (end - (8 - n)) new ≡ front
  front_stored =
      let long : end - (8 - n) ≡ length front = omega (arith, front_long) in
      sym (take-take (end - (8 - n)) end new (omega arith))
      ∙ ap (take (end - (8 - n))) front_and_zeros
      ∙ ap (λ k. take k (front ++ replicate (8 - n) 0)) long
      ∙ take-append_seam front (replicate (8 - n) 0)

-- eight code units and the first n of eight more
module _ (us vs : List ℕ) (long : length us ≡ 8) where
  front_and_more : (n : ℕ) → take (8 + n) (us ++ vs) ≡ us ++ take n vs
  front_and_more n =
      ap (λ k. take (k + n) (us ++ vs)) (sym long) ∙ take-append-add us vs n

  pub both_scalars : (n : ℕ) → AreScalars us → AreScalars (take n vs)
      → AreScalars (take (8 + n) (us ++ vs))
  both_scalars n are others_are =
      subst AreScalars (sym (front_and_more n)) (scalars-append us (take n vs) are others_are)

  pub both_stored : (n : ℕ) (front : List ℕ) {mid after : List ℕ}
      → mid ≡ front ++ units_of_text encode_utf8 us
      → after ≡ mid ++ units_of_text encode_utf8 (take n vs)
      → after ≡ front ++ units_of_text encode_utf8 (take (8 + n) (us ++ vs))
  both_stored n front first next =
      next ∙ rw (first, front_and_more n, units-append encode_utf8 us (take n vs))
      (append_assoc front _ _)

  -- all of eight more
  module _ (more_long : length vs ≡ 8) where
    pub all_scalars : AreScalars us → AreScalars vs → AreScalars (take 16 (us ++ vs))
    all_scalars are others_are =
        both_scalars 8 are (subst AreScalars (sym (take_all 8 vs (omega arith))) others_are)

    pub all_stored : (front : List ℕ) {mid after : List ℕ}
        → mid ≡ front ++ units_of_text encode_utf8 us
        → after ≡ mid ++ units_of_text encode_utf8 vs
        → after ≡ front ++ units_of_text encode_utf8 (take 16 (us ++ vs))
    all_stored front {mid} first next =
        both_stored 8 front first (next ∙ ap (λ ws. mid ++ units_of_text encode_utf8 ws)
        (sym (take_all 8 vs (omega arith))))

-- the first of eight code units and eight more
pub front_of_both : (n : ℕ) (us vs : List ℕ) → n ≤ 8 → length us ≡ 8
    → take n (us ++ vs) ≡ take n us
front_of_both n us vs few long = take-append-le n us vs (omega arith)

-- eight are all of them
pub all_eight : (n : ℕ) (us : List ℕ) → length us ≡ 8 → n ≤ 8 → 8 ≤ n → take n us ≡ us
all_eight n us long few all = take_all n us (omega arith)

-- code units are their own UTF-16, if none is above U+FFFF
pub units_alone : (us : List ℕ) → Each1 (Fits w16) us → (n : ℕ)
    → units_of_text encode_utf16 (take n us) ≡ take n us
units_alone us fit n = own_text encode_utf16 (take n us) (λ k d inside.
    let front_fits = Each1-chunk (Fits w16) 0 n us fit in
    one_unit _ (Each1-get_or (Fits w16) (take n us) k d inside front_fits).fits)
