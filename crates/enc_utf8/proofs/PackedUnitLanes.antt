-- Code units of UTF-16 in eight lanes, and which bytes their UTF-8 has, as `packed_units.rt`
-- computes them.
use Rattle.std.proofs.Common.{◌≡◌, ℕ, zero, suc, ◌+◌, ◌-◌, ◌*◌, ◌/◌, ◌%◌, ◌^◌, ◌<◌, Bool, true, false, cond, ltb, leb}
use Rattle.std.proofs.Common.{List, [], ◌∷◌, ◌++◌, map, length, replicate, refl, ap, ◌∙◌, sym, arith, w8, w16}
use Rattle.std.proofs.Common.{bit_and, bit_or}
use Rattle.std.proofs.lemmas.Bool.Decides.{nat_tests}
use Rattle.std.proofs.lemmas.List.{length-map}
use Rattle.std.proofs.lemmas.Nat.{and_mask}
use Rattle.std.specs.Prelude.{All}
use Rattle.std.proofs.lemmas.List.Elements.{All-tail}
use Rattle.enc_utf8.specs.UnitWords.{unit_word_low}
use Rattle.enc_utf8.specs.PackedUnits.{pair_lens, triple_lens, unit_len}
use Rattle.enc_utf8.specs.Text.{units_of_text}
use Rattle.enc_utf8.proofs.Lanes.{IsLanes, itself, splat_over, by_op, chosen, flag, mask_of}
use Rattle.enc_utf8.proofs.UnitLanes.{all, shl16, shr16}
use Rattle.enc_utf8.proofs.ByteLanes.{add16}
use lib.Lanes.{Each1, mask_l, number_l, digits_l, top, zip2}
use mir.Val.{Fits}

-- the bytes of lanes

-- lanes of two bytes
pub pair_bytes : (n : ℕ) (xs : List ℕ) → n ≡ 2 * length xs → All (λ x. x < 65536) xs
    → digits_l 0x100 n (number_l 65536 xs) ≡ units_of_text (digits_l 0x100 2) xs
pair_bytes zero [] count fit = refl
pair_bytes (suc n) [] count fit = absurd (omega arith)
pair_bytes zero (x ∷ xs) count fit = absurd (omega arith)
pair_bytes (suc zero) (x ∷ xs) count fit = absurd (omega arith)
pair_bytes (suc (suc n)) (x ∷ xs) count fit =
    let rest = number_l 65536 xs in
    let below : x < 65536 = fit 0 0 (omega arith) in
    let low : (x + 65536 * rest) % 256 ≡ x % 256 = omega arith in
    let high : (x + 65536 * rest) / 256 % 256 ≡ x / 256 % 256 = omega arith in
    let more : (x + 65536 * rest) / 256 / 256 ≡ rest = omega arith in
    rw (low, high, more, pair_bytes n xs (omega arith) (All-tail (λ x. x < 65536) x xs fit)) refl

-- lanes of four bytes
pub word_bytes : (n : ℕ) (xs : List ℕ) → n ≡ 4 * length xs → All (λ x. x < 4294967296) xs
    → digits_l 0x100 n (number_l 4294967296 xs) ≡ units_of_text (digits_l 0x100 4) xs
word_bytes zero [] count fit = refl
word_bytes (suc n) [] count fit = absurd (omega arith)
word_bytes zero (x ∷ xs) count fit = absurd (omega arith)
word_bytes (suc zero) (x ∷ xs) count fit = absurd (omega arith)
word_bytes (suc (suc zero)) (x ∷ xs) count fit = absurd (omega arith)
word_bytes (suc (suc (suc zero))) (x ∷ xs) count fit = absurd (omega arith)
word_bytes (suc (suc (suc (suc n)))) (x ∷ xs) count fit =
    let rest = number_l 4294967296 xs in
    let below : x < 4294967296 = fit 0 0 (omega arith) in
    let first : (x + 4294967296 * rest) % 256 ≡ x % 256 = omega arith in
    let second : (x + 4294967296 * rest) / 256 % 256 ≡ x / 256 % 256 = omega arith in
    let third : (x + 4294967296 * rest) / 256 / 256 % 256 ≡ x / 256 / 256 % 256 = omega arith in
    let fourth : (x + 4294967296 * rest) / 256 / 256 / 256 % 256 ≡ x / 256 / 256 / 256 % 256 =
    omega arith in
    let more : (x + 4294967296 * rest) / 256 / 256 / 256 / 256 ≡ rest = omega arith in
    rw (
      first,
      second,
      third,
      fourth,
      more,
      word_bytes n xs (omega arith) (All-tail (λ x. x < 4294967296) x xs fit),
    ) refl

pub text_of_map : (f : ℕ → List ℕ) (g : ℕ → ℕ) (us : List ℕ)
    → units_of_text f (map g us) ≡ units_of_text (λ u. f (g u)) us
text_of_map f g [] = refl
text_of_map f g (u ∷ us) = ap (λ z. f (g u) ++ z) (text_of_map f g us)

-- code units below U+0800

short_len : (us : List ℕ) → All (λ u. u < 0x800) us
    → map (λ u. cond (ltb u 0x80) 1 2) us ≡ map unit_len us
short_len [] short = refl
short_len (u ∷ us) short =
    let below : u < 0x800 = short 0 0 (omega arith) in
    let same : cond (ltb u 0x80) 1 2 ≡ unit_len u = grind (arith, nat_tests) in
    rw (same, short_len us (All-tail (λ u. u < 0x800) u us short)) refl

lens_of_bits : (t : ℕ → Bool) (n : ℕ) (us : List ℕ) → n ≡ length us
    → pair_lens n (mask_l (map t us)) ≡ map (λ u. cond (t u) 1 2) us
lens_of_bits t zero [] count = refl
lens_of_bits t (suc n) [] count = absurd (omega arith)
lens_of_bits t zero (u ∷ us) count = absurd (omega arith)
lens_of_bits t (suc n) (u ∷ us) count =
    let rest = mask_l (map t us) in
    let bit : 2 - (cond (t u) 1 0 + 2 * rest) % 2 ≡ cond (t u) 1 2 = bit_is (t u) rest in
    let more : (cond (t u) 1 0 + 2 * rest) / 2 ≡ rest = rest_is (t u) rest in
    rw (bit, more, lens_of_bits t n us (omega arith)) refl
  where
    bit_is : (b : Bool) (rest : ℕ) → 2 - (cond b 1 0 + 2 * rest) % 2 ≡ cond b 1 2
    bit_is true rest = omega arith
    bit_is false rest = omega arith

    rest_is : (b : Bool) (rest : ℕ) → (cond b 1 0 + 2 * rest) / 2 ≡ rest
    rest_is true rest = omega arith
    rest_is false rest = omega arith

pub mask_below : (t : ℕ → Bool) (us : List ℕ) → mask_l (map t us) < 2 ^ length us
mask_below t [] = omega arith
mask_below t (u ∷ us) = doubled (t u) (mask_l (map t us)) (length us) (mask_below t us)
  where
    doubled : (b : Bool) (m n : ℕ) → m < 2 ^ n → cond b 1 0 + 2 * m < 2 ^ suc n
    doubled true m n h = omega arith
    doubled false m n h = omega arith

module _ (us : List ℕ) (long : length us ≡ 8) (fit : Each1 (Fits w16) us) where
  abbrev below : (n : ℕ) → (m : List ℕ) × IsLanes us m (λ u. cond (ltb u n) 65535 0)
  below n = (_, by_op (itself us) (all us long n) (flag w16 ltb))

  abbrev short_mask : ℕ
  short_mask = mask_l (map (top 15) (below 0x80).0) % 2 ^ 64

  short_mask_is : short_mask ≡ mask_l (map (λ u. ltb u 0x80) us)
  short_mask_is = mask_of w16 (λ u. ltb u 0x80) (below 0x80).1 (omega arith)

  pub short_mask_below : short_mask < 256
  short_mask_below =
      let count : 2 ^ length us ≡ 256 = ap (λ n. 2 ^ n) long in
      omega (arith, short_mask_is, count, mask_below (λ u. ltb u 0x80) us)

  pub short_lens : All (λ u. u < 0x800) us → pair_lens 8 short_mask ≡ map unit_len us
  short_lens short = ap (pair_lens 8) short_mask_is
      ∙ lens_of_bits (λ u. ltb u 0x80) 8 us (sym long) ∙ short_len us short

pub short_front_is : (u : ℕ) → u < 0x800
    → cond (ltb u 0x80) u (add16 (add16 (shr16 u 6) 0x80C0) (shl16 (bit_and u 63) 8))
    ≡ unit_word_low u
short_front_is u below =
    let last_six : bit_and u 63 ≡ u % 64 = and_mask u 6 in
    rw last_six (grind (arith, nat_tests))

pub same_below : (f g : ℕ → ℕ) (n : ℕ) → ((u : ℕ) → u < n → f u ≡ g u) → (us : List ℕ)
    → All (λ u. u < n) us → map f us ≡ map g us
same_below f g n same [] fit = refl
same_below f g n same (u ∷ us) fit =
    rw (same u (fit 0 0 (omega arith)), same_below f g n same us (All-tail (λ u. u < n) u us fit))
    refl

module _ (us : List ℕ) (long : length us ≡ 8) where
  abbrev pub short_fronts : All (λ u. u < 0x800) us → (m : List ℕ) × (m ≡ map unit_word_low us)
  short_fronts short =
      let own = itself us in
      let low = by_op (by_op own (all us long 63) bit_and) (all us long 8) shl16 in
      let upper = by_op own (all us long 6) shr16 in
      let two = by_op (by_op upper (all us long 0x80C0) add16) low add16 in
      let ascii = by_op own (all us long 0x80) (flag w16 ltb) in
      (_, (chosen w16 _ ascii own two).is ∙ same_below _ _ 0x800 short_front_is us short)

-- the bytes that are left out of each code unit, as bits

abbrev absent : ℕ → ℕ
absent u = bit_or (cond (ltb u 0x80) 0xFF00 0) (cond (ltb u 0x800) 0xFF 0)

-- a bit for each byte of 0x80 and above
abbrev high_bits : List ℕ → ℕ
high_bits bytes = mask_l (map (leb 128) bytes)

absent_len : (u : ℕ) → 3 - cond (leb 128 (absent u % 256)) 1 0
    - cond (leb 128 (absent u / 256 % 256)) 1 0 ≡ unit_len u
absent_len u = both (ltb u 0x80) (ltb u 0x800) ∙ grind (arith, nat_tests)
  where
    both : (one short : Bool)
        → 3 - cond (leb 128 (bit_or (cond one 0xFF00 0) (cond short 0xFF 0) % 256)) 1 0
        - cond (leb 128 (bit_or (cond one 0xFF00 0) (cond short 0xFF 0) / 256 % 256)) 1 0
        ≡ 3 - cond short 1 0 - cond one 1 0
    both true true = refl
    both true false = refl
    both false true = refl
    both false false = refl

lens_of_pairs : (n : ℕ) (us : List ℕ) → n ≡ length us
    → triple_lens n (high_bits (units_of_text (λ u. digits_l 0x100 2 (absent u)) us))
    ≡ map unit_len us
lens_of_pairs zero [] count = refl
lens_of_pairs (suc n) [] count = absurd (omega arith)
lens_of_pairs zero (u ∷ us) count = absurd (omega arith)
lens_of_pairs (suc n) (u ∷ us) count =
    let rest = high_bits (units_of_text (λ u. digits_l 0x100 2 (absent u)) us) in
    let low = leb 128 (absent u % 256) in
    let high = leb 128 (absent u / 256 % 256) in
    rw (
      len_is low high rest,
      more_is low high rest,
      absent_len u,
      lens_of_pairs n us (omega arith),
    ) refl
  where
    len_is : (low high : Bool) (rest : ℕ)
        → 3 - (cond low 1 0 + 2 * (cond high 1 0 + 2 * rest)) % 2
        - (cond low 1 0 + 2 * (cond high 1 0 + 2 * rest)) / 2 % 2
        ≡ 3 - cond low 1 0 - cond high 1 0
    len_is true true rest = omega arith
    len_is true false rest = omega arith
    len_is false true rest = omega arith
    len_is false false rest = omega arith

    more_is : (low high : Bool) (rest : ℕ)
        → (cond low 1 0 + 2 * (cond high 1 0 + 2 * rest)) / 4 ≡ rest
    more_is true true rest = omega arith
    more_is true false rest = omega arith
    more_is false true rest = omega arith
    more_is false false rest = omega arith

absent_below : (us : List ℕ) → All (λ x. x < 65536) (map absent us)
absent_below [] k d inside = absurd (omega arith)
absent_below (u ∷ us) zero d inside = below (ltb u 0x80) (ltb u 0x800)
  where
    below : (one short : Bool) → bit_or (cond one 0xFF00 0) (cond short 0xFF 0) < 65536
    below true true = omega arith
    below true false = omega arith
    below false true = omega arith
    below false false = omega arith
absent_below (u ∷ us) (suc k) d inside = absent_below us k d (omega arith)

module _ (us : List ℕ) (long : length us ≡ 8) where
  abbrev absent_lanes : (m : List ℕ) × IsLanes us m absent
  absent_lanes =
      let own = itself us in
      let ascii = by_op own (all us long 0x80) (flag w16 ltb) in
      let short = by_op own (all us long 0x800) (flag w16 ltb) in
      let one = chosen w16 _ ascii (all us long 0xFF00) (all us long 0) in
      let two = chosen w16 _ short (all us long 0xFF) (all us long 0) in
      (_, by_op one two bit_or)

  abbrev lane_bytes : List ℕ
  lane_bytes = digits_l 0x100 16 (number_l 65536 absent_lanes.0)

  abbrev absent_mask : ℕ
  absent_mask = mask_l (map (top 7) (zip2 (flag w8 leb) (replicate 16 128) lane_bytes)) % 2 ^ 64

  absent_mask_is : absent_mask ≡ high_bits lane_bytes
  absent_mask_is = mask_of w8 (leb 128)
      (by_op (splat_over lane_bytes 16 128 refl) (itself lane_bytes) (flag w8 leb)) (omega arith)

  lane_bytes_are : lane_bytes ≡ units_of_text (λ u. digits_l 0x100 2 (absent u)) us
  lane_bytes_are =
      ap (λ z. digits_l 0x100 16 (number_l 65536 z)) absent_lanes.1.is
      ∙ pair_bytes 16 (map absent us) (omega (arith, long, length-map us absent)) (absent_below us)
      ∙ text_of_map (digits_l 0x100 2) absent us

  pub absent_mask_below : absent_mask < 65536
  absent_mask_below = omega (arith, absent_mask_is, mask_below (leb 128) lane_bytes)

  pub absent_lens : triple_lens 8 absent_mask ≡ map unit_len us
  absent_lens = ap (triple_lens 8) (absent_mask_is ∙ ap high_bits lane_bytes_are)
      ∙ lens_of_pairs 8 us (sym long)
