-- Code units that a mask marks, one after another.
use Rattle.std.proofs.Common.{◌≡◌, ℕ, zero, suc, ◌+◌, ◌-◌, ◌*◌, ◌/◌, ◌%◌, ◌^◌, ◌<◌, ◌≤◌, Bool, true, ◌&&◌, eqb, ltb}
use Rattle.std.proofs.Common.{List, [], ◌∷◌, ◌++◌, w16, map, length, get_or, take, drop, refl, ap, ◌∙◌, sym, subst}
use Rattle.std.proofs.Common.{arith, eqb-true, ltb-true, drop-cons}
use Rattle.std.proofs.lemmas.Bool.{and_parts}
use Rattle.std.proofs.lemmas.Grind.{same_number_lists}
use Rattle.std.proofs.lemmas.List.{length-map, get_or-map, get_or-take, take-take}
use Rattle.std.proofs.lemmas.Simd.{Each1-from_get_or, Each1-get_or, get_or_wider, get_or_narrower}
use Rattle.std.proofs.lemmas.Nat.{ones-le, field_of}
use Rattle.std.proofs.Math.Pow.{mod-mod-pow}
use Rattle.enc_utf8.proofs.LengthLemmas.{lengths}
use Rattle.enc_output.specs.declared.marked.TheConstants.{MARKED}
use Rattle.enc_output.specs.Utf8Units.{marked_places, marked_code_units}
use Rattle.enc_utf8.proofs.PutLemmas.{stored_lanes}
use Rattle.enc_utf8.proofs.TestLemmas.{every, every_passes}
use lib.Count.{ones}
use lib.Lanes.{put_chunk, chunk, number_l, digits_l, Each1}
use mir.Val.{Fits}

-- the lowest n bits decide the first n places
low_bits : (n m from : ℕ) → marked_places (m % 2 ^ n) from n ≡ marked_places m from n
low_bits zero m from = refl
low_bits (suc n) m from =
    let width : suc n ≡ n + 1 = omega arith in
    let bit : m % 2 ^ suc n % 2 ≡ m % 2 = ap (λ k. m % 2 ^ k % 2) width ∙ mod-mod-pow m n 1 in
    let rest : m % 2 ^ suc n / 2 ≡ m / 2 % 2 ^ n =
    ap (λ k. m % 2 ^ k / 2) width ∙ field_of m n 1 in
    rw (bit, rest, low_bits n (m / 2) (suc from)) refl

-- the table

-- the place of a code unit is below 8, and those of its bytes follow from it
abbrev unit_ok : ℕ → ℕ → ℕ → Bool
unit_ok place first second = ltb place 8 && (eqb first (2 * place) && eqb second (2 * place + 1))

-- The tests of a row: its places are below 16, the mask has as many bits as there are marked code
-- units, and the row begins with both bytes of each.
abbrev row_ok : ℕ → List ℕ → Bool
row_ok m row =
    every 16 (λ k. ltb (get_or row k 0) 16)
    && (eqb (length (marked_places m 0 8)) (ones m)
    && every (ones m) (λ j. unit_ok (get_or (marked_places m 0 8) j 0) (get_or row (2 * j) 0)
    (get_or row (2 * j + 1) 0)))

rows_ok : every 256 (λ m. row_ok m (chunk (m * 16) 16 MARKED)) ≡ true
unfolding every ones
rows_ok = refl

marked_count : length MARKED ≡ 4096
marked_count = refl

-- The row of a mask: sixteen places of bytes. It begins with the bytes 2p and 2p + 1 of each marked
-- code unit p, in order.
pub record IsRow (mask : ℕ) (row : List ℕ) : Type 0 where
  pub within : (k : ℕ) → k < 16 → get_or row k 0 < 16
  pub count : length (marked_places mask 0 8) ≡ ones mask
  pub below_eight : (j : ℕ) → j < ones mask → get_or (marked_places mask 0 8) j 0 < 8
  pub evens : (j : ℕ) → j < ones mask
      → get_or row (2 * j) 0 ≡ 2 * get_or (marked_places mask 0 8) j 0
  pub odds : (j : ℕ) → j < ones mask
      → get_or row (2 * j + 1) 0 ≡ 2 * get_or (marked_places mask 0 8) j 0 + 1

-- the sixteen places that u8x16::from_slice(&MARKED[mask * 16..]) loads
abbrev pub row_of : ℕ → List ℕ
row_of mask = take 16 (take (4096 - mask * 16) (drop (mask * 16) MARKED))

row_of_table : (mask : ℕ) → mask < 256 → row_of mask ≡ chunk (mask * 16) 16 MARKED
row_of_table mask h = take-take 16 (4096 - mask * 16) (drop (mask * 16) MARKED) (omega arith)

pub row_long : (mask : ℕ) → mask < 256 → length (row_of mask) ≡ 16
row_long mask h = ap length (row_of_table mask h)
    ∙ omega (arith, lengths, marked_count)

pub row_is : (mask : ℕ) → mask < 256 → IsRow mask (row_of mask)
row_is mask is_byte =
    let row = chunk (mask * 16) 16 MARKED in
    let places = marked_places mask 0 8 in
    -- each .0 is a test, each .1 the tests after it
    let tests = and_parts _ _ (every_passes 256 (λ m. row_ok m (chunk (m * 16) 16 MARKED)) rows_ok
    mask is_byte) in
    let count_and_units = and_parts _ _ tests.1 in
    let unit = λ (j : ℕ) (below : j < ones mask). and_parts _ _ (every_passes (ones mask)
    (λ j. unit_ok (get_or places j 0) (get_or row (2 * j) 0) (get_or row (2 * j + 1) 0))
    count_and_units.1 j below) in
    subst (IsRow mask) (sym (row_of_table mask is_byte)) (record {
      within = λ k below.
          ltb-true _ _ (every_passes 16 (λ k. ltb (get_or row k 0) 16) tests.0 k below);
      count = eqb-true _ _ count_and_units.0;
      below_eight = λ j below. ltb-true _ _ (unit j below).0;
      evens = λ j below. eqb-true _ _ (and_parts _ _ (unit j below).1).0;
      odds = λ j below. eqb-true _ _ (and_parts _ _ (unit j below).1).1;
    })

digit_below : (n x k : ℕ) → get_or (digits_l 0x100 n x) k 0 < 0x100
digit_below zero x k = omega arith
digit_below (suc n) x zero = omega arith
digit_below (suc n) x (suc k) = digit_below n (x / 0x100) k

two_of : (xs : List ℕ) (i : ℕ) → i + 1 < length xs
    → chunk i 2 xs ≡ get_or xs i 0 ∷ get_or xs (i + 1) 0 ∷ []
two_of xs i h =
    let next : suc i ≡ i + 1 = omega arith in
    rw (drop-cons xs i 0 (omega arith), drop-cons xs (suc i) 0 (omega arith), next) refl

-- store_marked: the code units as little-endian bytes, those that the row of the mask picks, and
-- these as code units again
module _ (units row : List ℕ) (mask : ℕ) (long : length units ≡ 8) (fit : Each1 (Fits w16) units)
    (sixteen : length row ≡ 16) (is_row : IsRow mask row) where
  abbrev bytes : List ℕ
  bytes = digits_l 0x100 16 (number_l 0x1_0000 units)

  abbrev chosen : List ℕ
  chosen = map (λ p. get_or bytes p 0) row

  abbrev stored : List ℕ
  stored = digits_l 0x1_0000 8 (number_l 0x100 chosen)

  unit_below : (k : ℕ) → k < 8 → get_or units k 0 < 0x1_0000
  unit_below k h = (Each1-get_or (Fits w16) units k 0 (omega arith) fit).fits

  units_below : Each1 (λ x. x < 0x1_0000) units
  units_below = Each1-from_get_or (λ x. x < 0x1_0000) units 0 (λ k h. unit_below k (omega arith))

  low_byte : (k : ℕ) → k < 8 → get_or bytes (2 * k) 0 ≡ get_or units k 0 % 0x100
  low_byte k h =
      let place : 2 * k ≡ 2 * k + 0 = omega arith in
      let value : get_or units k 0 / 1 % 0x100 ≡ get_or units k 0 % 0x100 = omega arith in
      ap (λ i. get_or bytes i 0) place
      ∙ get_or_narrower 0x1_0000 2 0x100 16 units k 0 refl units_below (omega arith) (omega arith)
      ∙ value

  high_byte : (k : ℕ) → k < 8 → get_or bytes (2 * k + 1) 0 ≡ get_or units k 0 / 0x100 % 0x100
  high_byte k h = get_or_narrower 0x1_0000 2 0x100 16 units k 1 refl units_below (omega arith)
      (omega arith)

  chosen_at : (k : ℕ) → k < 16 → get_or chosen k 0 ≡ get_or bytes (get_or row k 0) 0
  chosen_at k h = get_or-map (λ p. get_or bytes p 0) row k 0 0 (omega arith)

  bytes_below : Each1 (λ x. x < 0x100) chosen
  bytes_below = Each1-from_get_or (λ x. x < 0x100) chosen 0 (λ k h.
      let few : k < 16 = omega (arith, length-map row (λ p. get_or bytes p 0)) in
      subst (λ x. x < 0x100) (sym (chosen_at k few))
      (digit_below 16 (number_l 0x1_0000 units) (get_or row k 0)))

  stored_at : (j : ℕ) → j < 8
      → get_or stored j 0 ≡ get_or chosen (2 * j) 0 + 0x100 * get_or chosen (2 * j + 1) 0
  stored_at j h =
      get_or_wider 0x100 2 0x1_0000 8 chosen j refl bytes_below h
      ∙ ap (number_l 0x100) (two_of chosen (2 * j)
      (omega (arith, length-map row (λ p. get_or bytes p 0))))
      ∙ omega arith

  stored_unit : (j : ℕ) → j < ones mask → mask < 0x100
      → get_or stored j 0 ≡ get_or units (get_or (marked_places mask 0 8) j 0) 0
  stored_unit j below_count is_byte =
      let place = get_or (marked_places mask 0 8) j 0 in
      let few : j < 8 = omega (arith, ones-le 8 mask is_byte) in
      let low : get_or chosen (2 * j) 0 ≡ get_or units place 0 % 0x100 =
      chosen_at (2 * j) (omega arith) ∙ ap (λ i. get_or bytes i 0) (is_row.evens j below_count)
      ∙ low_byte place (is_row.below_eight j below_count) in
      let high : get_or chosen (2 * j + 1) 0 ≡ get_or units place 0 / 0x100 % 0x100 =
      chosen_at (2 * j + 1) (omega arith) ∙ ap (λ i. get_or bytes i 0) (is_row.odds j below_count)
      ∙ high_byte place (is_row.below_eight j below_count) in
      let below = unit_below place (is_row.below_eight j below_count) in
      stored_at j few ∙ omega (arith, low, high, below)

  pub marked_units : mask < 0x100
      → take (ones mask) stored ≡ map (λ k. get_or units k 0) (marked_places mask 0 8)
  marked_units is_byte =
      let few = ones-le 8 mask is_byte in
      same_number_lists _ _
      (omega (
        arith,
        lengths,
        length-map (marked_places mask 0 8) (λ k. get_or units k 0),
        is_row.count,
      ))
      (λ k h.
      let below_count : k < ones mask = omega (arith, lengths) in
      get_or-take (ones mask) stored k 0 below_count ∙ stored_unit k below_count is_byte
      ∙ sym (get_or-map (λ k. get_or units k 0) (marked_places mask 0 8) k 0 0
      (omega (arith, is_row.count))))

-- The marked units follow the first `at`. `stored_lanes` cuts them off, `marked_units` says which
-- they are, and `low_bits` allows marks above the lowest eight.
pub stores_marked : (at marks : ℕ) (units row picked_bytes old : List ℕ) → at + 8 ≤ length old
    → length units ≡ 8
    → Each1 (Fits w16) units → length row ≡ 16 → IsRow (marks % 0x100) row
    → picked_bytes ≡ map (λ p. get_or (digits_l 0x100 16 (number_l 0x1_0000 units)) p 0) row
    → take (at + ones (marks % 0x100))
    (put_chunk at old (digits_l 0x1_0000 8 (number_l 0x100 picked_bytes))) ≡ take at old
    ++ marked_code_units marks units
stores_marked at marks units row picked_bytes old room long fit row_long is_row are_picked =
    let mask = marks % 0x100 in
    let below : mask < 0x100 = omega arith in
    rw are_picked (stored_lanes at (ones mask) old (stored units row mask long fit row_long is_row)
    room (ones-le 8 mask below)
    ∙ ap (λ z. take at old ++ z) (marked_units units row mask long fit row_long is_row below
    ∙ ap (map (λ k. get_or units k 0)) (low_bits 8 marks 0)))
