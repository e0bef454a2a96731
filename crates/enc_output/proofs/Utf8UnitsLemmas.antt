-- The code units of UTF-16 that the bytes of UTF-8 give.
use Rattle.std.proofs.Common.{◌≡◌, ℕ, zero, suc, ◌+◌, ◌-◌, ◌/◌, ◌%◌, ◌^◌, ◌<◌, ◌≤◌, Bool, true, false, ◌==◌}
use Rattle.std.proofs.Common.{if◌then◌else◌, cond, List, [], ◌∷◌, ◌++◌, map, length, get_or, drop, refl, ap, ◌∙◌, sym}
use Rattle.std.proofs.Common.{arith, append_assoc, drop-drop}
use Rattle.std.proofs.lemmas.Bool.{lt-ltb}
use Rattle.std.proofs.lemmas.Bool.Decides.{nat_tests}
use Rattle.std.proofs.lemmas.List.{map-append}
use Rattle.std.proofs.lemmas.Nat.{shr-shr}
use Rattle.std.proofs.lemmas.Simd.{get_or-chunk, pick_l_left, pick_l-range_with_len}
use Rattle.std.specs.List.{range_with_len}
use lib.Lanes.{chunk, pick_l}
use Rattle.enc_output.specs.Utf8Units.{gives_unit, code_unit_of_byte, byte_two_before, unit_at, units_from}
use Rattle.enc_output.specs.Utf8Units.{marked_places, marked_code_units}
use Rattle.enc_utf8.proofs.LengthLemmas.{lengths}

-- whether the byte at a place gives a code unit, and which
abbrev gives_unit_at : List ℕ → ℕ → Bool
gives_unit_at src at = gives_unit (byte_two_before src at) (get_or src at 0)

abbrev code_unit_at : List ℕ → ℕ → ℕ
code_unit_at src at =
    code_unit_of_byte (get_or src at 0) (get_or src (suc at) 0) (get_or src (suc (suc at)) 0)

abbrev pub if_one : Bool → ℕ → List ℕ
if_one t u = if t then u ∷ [] else []

-- the code unit of an ASCII byte
pub low_unit : (z a b c : ℕ) → a < 0x80 → if_one (gives_unit z a) (code_unit_of_byte a b c) ≡ a ∷ []
low_unit z a b c low = rw (lt-ltb a 0x80 low) refl

-- the units of bytes are at most as many

few_one : (t : Bool) (u : ℕ) → length (if_one t u) ≤ 1
few_one true u = omega arith
few_one false u = omega arith

pub units_few : (src : List ℕ) (at n : ℕ) → length (units_from src at n) ≤ n
units_few src at zero = omega arith
units_few src at (suc n) =
    let first = few_one (gives_unit_at src at) (code_unit_at src at) in
    omega (arith, lengths, first, units_few src (suc at) n)

-- the units of a bytes and of b more, at `place`, are those of all
pub units_then : (src : List ℕ) (at a b : ℕ) {place all : ℕ} → place ≡ at + a → all ≡ a + b
    → units_from src at a ++ units_from src place b ≡ units_from src at all
units_then src at zero b place_is all_is =
    let here : at + 0 ≡ at = omega arith in
    let none : 0 + b ≡ b = omega arith in
    rw (place_is, all_is, here, none) refl
units_then src at (suc a) b {place} {all} place_is all_is =
    let next : place ≡ suc at + a = omega arith in
    let more : suc (a + b) ≡ all = omega arith in
    append_assoc (unit_at src at) (units_from src (suc at) a) (units_from src place b)
    ∙ ap (λ z. unit_at src at ++ z) (units_then src (suc at) a b {all = a + b} next refl)
    ∙ ap (units_from src at) more

-- the same of a buffer
pub units_further : (src : List ℕ) (from a at b all : ℕ) {before after : List ℕ}
    → before ≡ units_from src from a → after ≡ before ++ units_from src at b → at ≡ from + a
    → all ≡ a + b → after ≡ units_from src from all
units_further src from a at b all front stored place count =
    stored ∙ ap (λ z. z ++ units_from src at b) front ∙ units_then src from a b place count

pub units_parts : (src : List ℕ) (a b : ℕ) → a ≤ b
    → length (units_from src 0 b) ≡ length (units_from src 0 a) + length (units_from src a (b - a))
units_parts src a b within =
    let whole = units_then src 0 a (b - a) {place = a} {all = b} (omega arith) (omega arith) in
    omega (arith, lengths, ap length whole)

-- the units at the places that the bits of a mask mark

one_marked : (t : Bool) {bit u v : ℕ} → bit ≡ cond t 1 0 → (t ≡ true → u ≡ v)
    → if_one (bit == 1) u ≡ if_one t v
one_marked true is_bit same = rw (is_bit, same refl) refl
one_marked false is_bit same = rw is_bit refl

unit_of_place : (units : List ℕ) (t : Bool) (place : ℕ)
    → map (λ k. get_or units k 0) (if t then place ∷ [] else []) ≡ if_one t (get_or units place 0)
unit_of_place units true place = refl
unit_of_place units false place = refl

-- each of n bytes gives what its lane and its bit say
pub record AreMarked (src : List ℕ) (at marks from : ℕ) (units : List ℕ) (n : ℕ) : Type 0 where
  lane : (k : ℕ) → k < n
      → if_one (marks / 2 ^ k % 2 == 1) (get_or units (from + k) 0) ≡ unit_at src (at + k)

marked_from : (src units : List ℕ) (n at from marks : ℕ) → AreMarked src at marks from units n
    → map (λ k. get_or units k 0) (marked_places marks from n) ≡ units_from src at n
marked_from src units zero at from marks are_marked = refl
marked_from src units (suc n) at from marks are_marked =
    let unit_of = λ (k : ℕ). get_or units k 0 in
    let here : marks / 1 % 2 ≡ marks % 2 = omega arith in
    let unit : from + 0 ≡ from = omega arith in
    let place : at + 0 ≡ at = omega arith in
    let lane = rw (here, unit, place) at (are_marked.lane 0 (omega arith)) in
    let rest : AreMarked src (suc at) (marks / 2) (suc from) units n = record {
      lane = λ k below.
          let bit : 1 + k ≡ suc k = omega arith in
          let unit : suc from + k ≡ from + suc k = omega arith in
          let place : suc at + k ≡ at + suc k = omega arith in
          rw (shr-shr marks 1 k, bit, unit, place) (are_marked.lane (suc k) (omega arith));
    } in
    map-append unit_of (if marks % 2 == 1 then from ∷ [] else [])
    (marked_places (marks / 2) (suc from) n)
    ∙ ap (λ z. z ++ map unit_of (marked_places (marks / 2) (suc from) n))
    (unit_of_place units (marks % 2 == 1) from ∙ lane)
    ∙ ap (λ z. unit_at src at ++ z) (marked_from src units n (suc at) (suc from) (marks / 2) rest)

-- eight lanes that are taken out of sixteen

lower_is : (units : List ℕ) → length units ≡ 16
    → pick_l 0 (units ++ units) (range_with_len 0 8) ≡ chunk 0 8 units
lower_is units long = pick_l_left 0 units units 16 (range_with_len 0 8) long tt
    ∙ pick_l-range_with_len 0 units 0 8 (omega arith)

upper_is : (units : List ℕ) → length units ≡ 16
    → pick_l 0 (units ++ units) (range_with_len 8 8) ≡ chunk 8 8 units
upper_is units long = pick_l_left 0 units units 16 (range_with_len 8 8) long tt
    ∙ pick_l-range_with_len 0 units 8 8 (omega arith)

eight_marked : {src units taken : List ℕ} {at marks : ℕ} (first place some : ℕ)
    → AreMarked src at marks 0 units 16 → first + 8 ≤ 16 → taken ≡ chunk first 8 units
    → place ≡ at + first → some ≡ marks / 2 ^ first
    → marked_code_units some taken ≡ units_from src place 8
eight_marked {src} {units} {taken} {at} {marks} first place some are_marked few taken_is place_is
    some_is =
    marked_from src taken 8 place 0 some (record {
      lane = λ k below.
          let bits = ap (λ x. x / 2 ^ k) some_is ∙ shr-shr marks first k in
          let here : 0 + k ≡ k = omega arith in
          let whole : first + k ≡ 0 + (first + k) = omega arith in
          let on : at + (first + k) ≡ place + k = omega arith in
          let lane = ap (λ z. get_or z k 0) taken_is ∙ get_or-chunk first 8 units k 0 below in
          rw (here, lane ∙ ap (λ i. get_or units i 0) whole, bits)
          (are_marked.lane (first + k) (omega arith) ∙ ap (unit_at src) on);
    })

-- sixteen bytes are stored as eight and eight
pub stores_sixteen : {src units one two : List ℕ} {at marks : ℕ} (old : List ℕ) → length units ≡ 16
    → AreMarked src at marks 0 units 16
    → one ≡ old ++ marked_code_units marks (pick_l 0 (units ++ units) (range_with_len 0 8))
    → two ≡ one ++ marked_code_units (marks / 0x100)
    (pick_l 0 (units ++ units) (range_with_len 8 8))
    → two ≡ old ++ units_from src at 16
stores_sixteen {src} {units} {at = at} {marks = marks} old long are_marked first second =
    let low = marked_code_units marks (pick_l 0 (units ++ units) (range_with_len 0 8)) in
    let high = marked_code_units (marks / 0x100) (pick_l 0 (units ++ units) (range_with_len 8 8)) in
    let start : at ≡ at + 0 = omega arith in
    let low_is : low ≡ units_from src at 8 =
    eight_marked 0 at marks are_marked (omega arith) (lower_is units long) start (omega arith) in
    let high_is : high ≡ units_from src (at + 8) 8 =
    eight_marked 8 (at + 8) (marks / 0x100) are_marked (omega arith) (upper_is units long) refl refl
    in
    second ∙ ap (λ z. z ++ high) first ∙ append_assoc old low high
    ∙ rw (low_is, high_is) (ap (λ z. old ++ z) (units_then src at 8 8 refl refl))

-- sixteen lanes of a load

module _ (src : List ℕ) (at : ℕ) where
  pub units_here : (k : ℕ) → k < 16
      → code_unit_of_byte (get_or (chunk at 16 src) k 0) (get_or (chunk (at + 1) 16 src) k 0)
      (get_or (chunk (at + 2) 16 src) k 0)
      ≡ code_unit_of_byte (get_or src (at + k) 0) (get_or src (at + k + 1) 0)
      (get_or src (at + k + 2) 0)
  units_here k below =
      let lane : (i m : ℕ) → i + k ≡ m → get_or (chunk i 16 src) k 0 ≡ get_or src m 0 =
      λ i m place. get_or-chunk i 16 src k 0 below ∙ ap (λ n. get_or src n 0) place in
      rw (
        lane at (at + k) refl,
        lane (at + 1) (at + k + 1) (omega arith),
        lane (at + 2) (at + k + 2) (omega arith),
      ) refl

  before_here : (k : ℕ) → 2 ≤ at → k < 16
      → get_or (chunk (at - 2) 16 src) k 0 ≡ byte_two_before src (at + k)
  before_here k after below =
      let place : suc (suc (at - 2 + k)) ≡ at + k = omega arith in
      get_or-chunk (at - 2) 16 src k 0 below ∙ ap (byte_two_before src) place

  pub marked_load : (marks : ℕ) (units : List ℕ) → 2 ≤ at
      → ((k : ℕ) → k < 16 → marks / 2 ^ k % 2
      ≡ cond (gives_unit (get_or (chunk (at - 2) 16 src) k 0) (get_or (chunk at 16 src) k 0)) 1 0)
      → ((k : ℕ) → k < 16
      → gives_unit (get_or (chunk (at - 2) 16 src) k 0) (get_or src (at + k) 0) ≡ true
      → get_or units k 0 ≡ code_unit_of_byte (get_or src (at + k) 0) (get_or src (at + k + 1) 0)
      (get_or src (at + k + 2) 0))
      → AreMarked src at marks 0 units 16
  marked_load marks units after bits unit_values = record {
    lane = λ k below.
        let before = before_here k after below in
        let lane : 0 + k ≡ k = omega arith in
        let next : at + k + 1 ≡ suc (at + k) = omega arith in
        let second : at + k + 2 ≡ suc (suc (at + k)) = omega arith in
        let bit = rw (before, get_or-chunk at 16 src k 0 below) at (bits k below) in
        let unit = λ (is_given : gives_unit_at src (at + k) ≡ true).
        unit_values k below (ap (λ z. gives_unit z (get_or src (at + k) 0)) before ∙ is_given)
        ∙ rw (next, second) refl in
        rw lane (one_marked (gives_unit_at src (at + k)) bit unit);
  }

pub first_alone : (z a : ℕ) → z < 0xF0 → gives_unit z a ≡ true → gives_unit 0 a ≡ true
first_alone z a narrow is_given = grind (arith, nat_tests)

-- what stays after stores
pub dropped_beyond : (n m : ℕ) (xs ys : List ℕ) → n ≤ m → drop n xs ≡ drop n ys
    → drop m xs ≡ drop m ys
dropped_beyond n m xs ys within same =
    let place : n + (m - n) ≡ m = omega arith in
    sym (drop-drop (m - n) n xs ∙ ap (λ i. drop i xs) place) ∙ ap (drop (m - n)) same
    ∙ drop-drop (m - n) n ys ∙ ap (λ i. drop i ys) place
