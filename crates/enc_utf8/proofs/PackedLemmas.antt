-- Bytes of characters in lanes of the same width, stored one after another by a table of places.
use Rattle.std.proofs.Common.{◌≡◌, ℕ, suc, ◌+◌, ◌-◌, ◌*◌, ◌<◌, ◌≤◌, Bool, true, ◌&&◌, eqb, ltb}
use Rattle.std.proofs.Common.{List, [], ◌∷◌, ◌++◌, map, length, get_or, take, drop, refl, ap, ◌∙◌, sym, subst, arith}
use Rattle.std.proofs.Common.{append_assoc, eqb-true, ltb-true}
use Rattle.std.proofs.lemmas.Bool.{and_parts}
use Rattle.std.proofs.lemmas.Grind.{same_number_lists}
use Rattle.std.proofs.lemmas.List.{length-map, take-take, take-append-drop, map-append, take-map, get_or-append_right}
use Rattle.std.specs.Prelude.{All}
use Rattle.std.proofs.lemmas.List.Elements.{All-tail}
use Rattle.enc_utf8.proofs.LengthLemmas.{lengths}
use Rattle.enc_utf8.proofs.PutLemmas.{stored_lanes}
use Rattle.enc_utf8.proofs.TestLemmas.{every, every_passes}
use Rattle.enc_utf8.specs.PackedUnits.{count_up, places_of, pair_lens, triple_lens, kept_bytes}
use Rattle.enc_utf8.specs.Text.{units_of_text}
use Rattle.enc_utf8.specs.declared.packed.TheConstants.{PAIR_PLACES, TRIPLE_PLACES}
use lib.Count.{ones}
use lib.Lanes.{put_chunk, chunk}

-- the tables

abbrev same : List ℕ → List ℕ → Bool
same xs ys = eqb (length xs) (length ys)
    && every (length xs) (λ k. eqb (get_or xs k 0) (get_or ys k 0))

same_lists : (xs ys : List ℕ) → same xs ys ≡ true → xs ≡ ys
same_lists xs ys h =
    let tests = and_parts _ _ h in
    same_number_lists xs ys (eqb-true _ _ tests.0) (λ k below.
    eqb-true _ _ (every_passes (length xs) (λ k. eqb (get_or xs k 0) (get_or ys k 0)) tests.1 k
    below))

-- The tests of a row: its places are below 16, and it begins with these.
abbrev row_ok : List ℕ → ℕ → List ℕ → Bool
row_ok kept count row =
    every 16 (λ k. ltb (get_or row k 0) 16) && same (take count row) kept

pairs_ok : every 256 (λ m. row_ok (places_of 2 (pair_lens 8 m) 0) (16 - ones m)
    (chunk (m * 16) 16 PAIR_PLACES)) ≡ true
unfolding every ones
pairs_ok = refl

triples_ok : every 256 (λ m. row_ok (places_of 4 (triple_lens 4 m) 0) (12 - ones m)
    (chunk (m * 16) 16 TRIPLE_PLACES)) ≡ true
unfolding every ones
triples_ok = refl

-- the row of a mask: sixteen places of bytes, and the first are these
pub record IsRow (kept : List ℕ) (count : ℕ) (row : List ℕ) : Type 0 where
  pub within : (k : ℕ) → k < 16 → get_or row k 0 < 16
  pub long : length row ≡ 16
  pub begins : take count row ≡ kept

-- the sixteen places that u8x16::from_slice(&TABLE[mask * 16..]) loads
abbrev pub row_of : List ℕ → ℕ → List ℕ
row_of table mask = take 16 (take (4096 - mask * 16) (drop (mask * 16) table))

module _ (table : List ℕ) (long : length table ≡ 4096) (kept : ℕ → List ℕ) (count : ℕ → ℕ)
    (ok : every 256 (λ m. row_ok (kept m) (count m) (chunk (m * 16) 16 table)) ≡ true) where
  row_is : (mask : ℕ) → mask < 256 → IsRow (kept mask) (count mask) (row_of table mask)
  row_is mask is_byte =
      let row = chunk (mask * 16) 16 table in
      let tests = and_parts _ _ (every_passes 256
      (λ m. row_ok (kept m) (count m) (chunk (m * 16) 16 table)) ok mask is_byte) in
      subst (IsRow (kept mask) (count mask))
      (sym (take-take 16 (4096 - mask * 16) (drop (mask * 16) table) (omega arith)))
      (record {
        within = λ k below.
            ltb-true _ _ (every_passes 16 (λ k. ltb (get_or row k 0) 16) tests.0 k below);
        long = omega (arith, lengths, long);
        begins = same_lists _ _ tests.1;
      })

pub pair_row : (mask : ℕ) → mask < 256
    → IsRow (places_of 2 (pair_lens 8 mask) 0) (16 - ones mask) (row_of PAIR_PLACES mask)
pair_row = row_is PAIR_PLACES refl (λ m. places_of 2 (pair_lens 8 m) 0) (λ m. 16 - ones m) pairs_ok

pub triple_row : (mask : ℕ) → mask < 256
    → IsRow (places_of 4 (triple_lens 4 mask) 0) (12 - ones mask) (row_of TRIPLE_PLACES mask)
triple_row = row_is TRIPLE_PLACES refl (λ m. places_of 4 (triple_lens 4 m) 0) (λ m. 12 - ones m)
    triples_ok

-- what a row picks is stored after the first `at`, and its first bytes count
pub stores_row : (at count : ℕ) (kept row bytes old picked : List ℕ) → at + 16 ≤ length old
    → count ≤ 16 → IsRow kept count row → picked ≡ map (λ p. get_or bytes p 0) row
    → take (at + count) (put_chunk at old picked) ≡ take at old
    ++ map (λ p. get_or bytes p 0) kept
stores_row at count kept row bytes old picked room few is_row are_picked =
    let long : length (map (λ p. get_or bytes p 0) row) ≡ 16 =
    length-map row (λ p. get_or bytes p 0) ∙ is_row.long in
    rw are_picked (stored_lanes at count old (map (λ p. get_or bytes p 0) row)
    (omega (arith, long)) (omega (arith, long))
    ∙ ap (λ z. take at old ++ z) (take-map (λ p. get_or bytes p 0) count row
    ∙ ap (map (λ p. get_or bytes p 0)) is_row.begins))

-- picking

-- the bytes of a lane, at the places from its beginning on
picked_lane : (front w rest : List ℕ)
    → map (λ p. get_or (front ++ (w ++ rest)) p 0) (count_up (length front) (length w)) ≡ w
picked_lane front [] rest = refl
picked_lane front (x ∷ w) rest =
    let next = front ++ (x ∷ []) in
    let same_bytes : next ++ (w ++ rest) ≡ front ++ (x ∷ (w ++ rest)) =
    append_assoc front (x ∷ []) (w ++ rest) in
    let count : length next ≡ suc (length front) = omega (arith, lengths) in
    let first : length front - length front ≡ 0 = omega arith in
    let here : get_or (front ++ (x ∷ (w ++ rest))) (length front) 0 ≡ x =
    get_or-append_right front (x ∷ (w ++ rest)) (length front) (length front) 0 refl (omega arith)
    ∙ ap (λ i. get_or (x ∷ (w ++ rest)) i 0) first in
    rw here (ap (λ z. x ∷ z)
    (subst (λ bytes. map (λ p. get_or bytes p 0) (count_up (suc (length front)) (length w)) ≡ w)
    same_bytes
    (subst (λ n. map (λ p. get_or (next ++ (w ++ rest)) p 0) (count_up n (length w)) ≡ w) count
    (picked_lane next w rest))))

-- Each lane has the bytes of one unit. They begin with its text.
module _ (width : ℕ) (bytes_of text_of : ℕ → List ℕ) (len : ℕ → ℕ) (P : ℕ → Type 0)
    (long : (u : ℕ) → P u → length (bytes_of u) ≡ width)
    (few : (u : ℕ) → P u → len u ≤ width)
    (begins : (u : ℕ) → P u → take (len u) (bytes_of u) ≡ text_of u) where
  picked_lanes : (us front : List ℕ) → All P us
      → map (λ p. get_or (front ++ units_of_text bytes_of us) p 0)
      (places_of width (map len us) (length front)) ≡ units_of_text text_of us
  picked_lanes [] front all = refl
  picked_lanes (u ∷ us) front all =
      let meets = all 0 0 (omega arith) in
      let lane = bytes_of u in
      let rest = units_of_text bytes_of us in
      let kept = take (len u) lane in
      let pick_in = λ (bytes : List ℕ) (p : ℕ). get_or bytes p 0 in
      let whole : kept ++ (drop (len u) lane ++ rest) ≡ lane ++ rest =
      sym (append_assoc kept (drop (len u) lane) rest)
      ∙ ap (λ z. z ++ rest) (take-append-drop (len u) lane) in
      let count : length kept ≡ len u = omega (arith, lengths, long u meets, few u meets) in
      let next : length (front ++ lane) ≡ length front + width =
      omega (arith, lengths, long u meets) in
      map-append (pick_in (front ++ (lane ++ rest))) (count_up (length front) (len u))
      (places_of width (map len us) (length front + width))
      ∙ ap (λ z. z ++ map (pick_in (front ++ (lane ++ rest)))
      (places_of width (map len us) (length front + width)))
      (subst (λ bytes. map (pick_in (front ++ bytes)) (count_up (length front) (len u)) ≡ kept)
      whole
      (subst (λ n. map (pick_in (front ++ (kept ++ (drop (len u) lane ++ rest))))
      (count_up (length front) n) ≡ kept) count
      (picked_lane front kept (drop (len u) lane ++ rest))) ∙ begins u meets)
      ∙ ap (λ z. text_of u ++ z)
      (subst (λ bytes. map (pick_in bytes) (places_of width (map len us) (length front + width))
      ≡ units_of_text text_of us) (append_assoc front lane rest)
      (subst (λ n. map (pick_in ((front ++ lane) ++ rest)) (places_of width (map len us) n)
      ≡ units_of_text text_of us) next
      (picked_lanes us (front ++ lane) (All-tail P u us all))))

  -- the bytes that are kept are the text
  pub kept_text : (us bytes lens : List ℕ) → bytes ≡ units_of_text bytes_of us → lens ≡ map len us
      → All P us → kept_bytes width lens bytes ≡ units_of_text text_of us
  kept_text us bytes lens bytes_are lens_are all =
      rw (bytes_are, lens_are) (picked_lanes us [] all)
