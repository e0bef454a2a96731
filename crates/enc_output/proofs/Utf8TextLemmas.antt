-- The code units that the bytes of a text in UTF-8 give are its UTF-16.
use Rattle.std.proofs.Common.{◌≡◌, ℕ, zero, suc, ◌+◌, ◌-◌, ◌/◌, ◌%◌, ◌<◌, ◌≤◌, true, false, List, [], ◌∷◌, ◌++◌}
use Rattle.std.proofs.Common.{length, get_or, take, drop, refl, ap, ◌∙◌, sym, subst, arith, drop-cons}
use Rattle.std.proofs.lemmas.Bool.{and_parts}
use Rattle.std.proofs.lemmas.Bool.Decides.{nat_tests}
use Rattle.std.specs.Char.{IsScalar, encode_utf8}
use Rattle.std.specs.Char.Escape.{encode_utf16}
use Rattle.enc_utf8.proofs.LengthLemmas.{lengths}
use Rattle.enc_utf8.specs.Text.{AreScalars, units_of_text}
use Rattle.enc_utf8.specs.Validity.{IsWellFormedUtf8}
use Rattle.enc_output.specs.Output.{Output, with_appended}
use Rattle.enc_output.specs.PieceRuns.{PutsPieces}
use Rattle.enc_utf8.specs.Pieces.{IsUtf8Char}
use Rattle.enc_output.specs.Utf8Units.{gives_unit, code_unit_of_byte, byte_two_before, unit_at, units_from}
use Rattle.enc_utf8.proofs.Utf8FormLemmas.{Form, One, Two, Three, Four, form_of, scalar_below}
use Rattle.enc_utf8.proofs.UnitsLemmas.{one_unit, two_units, their_units}
use Rattle.enc_output.proofs.Utf8CharsLemmas.{reads_utf8}
use Rattle.enc_output.proofs.Utf8UnitsLemmas.{if_one, low_unit}

-- the units of single bytes

gives_one : (z a b w c : ℕ) → gives_unit z a ≡ true → code_unit_of_byte a b w ≡ c
    → if_one (gives_unit z a) (code_unit_of_byte a b w) ≡ c ∷ []
gives_one z a b w c g e = ap (λ t. if_one t (code_unit_of_byte a b w)) g ∙ ap (λ x. x ∷ []) e

gives_none : (z b u : ℕ) → z < 0xF0 → (0x80 ≤ b) × (b < 0xC0) → if_one (gives_unit z b) u ≡ []
gives_none z b u h f = let none : gives_unit z b ≡ false = grind (arith, nat_tests) in
    ap (λ t. if_one t u) none

-- bytes that stand at a place

abbrev pub Stand : List ℕ → ℕ → List ℕ → Type 0
Stand src at [] = Unit {0}
Stand src at (x ∷ xs) = (get_or src at 0 ≡ x) × Stand src (suc at) xs

pub stands : (src : List ℕ) (at n : ℕ) → at + n ≤ length src → Stand src at (take n (drop at src))
stands src at zero h = tt
stands src at (suc n) h =
    subst (λ z. Stand src at (take (suc n) z)) (sym (drop-cons src at 0 (omega arith)))
    (refl, stands src (suc at) n (omega arith))

-- the units of a text

abbrev Gives : List ℕ → List ℕ → Type 0
Gives src t =
    (at : ℕ) → byte_two_before src at < 0xF0 → byte_two_before src (suc at) < 0xF0
    → Stand src at (units_of_text encode_utf8 t)
    → units_from src at (length (units_of_text encode_utf8 t)) ≡ units_of_text encode_utf16 t

module _ (src : List ℕ) (c : ℕ) (t : List ℕ) (rest : Gives src t) (at : ℕ)
    (y : byte_two_before src at < 0xF0)
    (no_fourth : byte_two_before src (suc at) < 0xF0) where
  abbrev bytes : List ℕ
  bytes = units_of_text encode_utf8 t

  abbrev Goal : List ℕ → List ℕ → Type 0
  Goal utf8 utf16 = Stand src at (utf8 ++ bytes)
      → units_from src at (length (utf8 ++ bytes)) ≡ utf16 ++ units_of_text encode_utf16 t

  one_byte : c < 0x80 → Goal (c ∷ []) (c ∷ [])
  one_byte low s =
      let first : unit_at src at ≡ c ∷ [] = rw s.0 (low_unit (byte_two_before src at) c _ _ low) in
      rw (first, rest (suc at) no_fourth (omega (arith, s.0)) s.1) refl

  two_bytes : 0x80 ≤ c → c < 0x800 → Goal ((192 + c / 64) ∷ (128 + c % 64) ∷ []) (c ∷ [])
  two_bytes from below s =
      let first : unit_at src at ≡ c ∷ [] =
      rw (s.0, s.1.0)
      (gives_one (byte_two_before src at) (192 + c / 64) (128 + c % 64)
      (get_or src (suc (suc at)) 0) c (grind (arith, nat_tests)) (grind (arith, nat_tests))) in
      let second : unit_at src (suc at) ≡ [] =
      gives_none (byte_two_before src (suc at)) (get_or src (suc at) 0) _ no_fourth
      (omega (arith, s.1.0)) in
      rw (first, second, rest (suc (suc at)) (omega (arith, s.0)) (omega (arith, s.1.0)) s.1.1) refl

  three_bytes : 0x800 ≤ c → c < 0x1_0000
      → Goal ((224 + c / 4096) ∷ (128 + c / 64 % 64) ∷ (128 + c % 64) ∷ []) (c ∷ [])
  three_bytes from below s =
      let first : unit_at src at ≡ c ∷ [] =
      rw (s.0, s.1.0, s.1.1.0)
      (gives_one (byte_two_before src at) (224 + c / 4096) (128 + c / 64 % 64) (128 + c % 64) c
      (grind (arith, nat_tests)) (grind (arith, nat_tests))) in
      let second : unit_at src (suc at) ≡ [] =
      gives_none (byte_two_before src (suc at)) (get_or src (suc at) 0) _ no_fourth
      (omega (arith, s.1.0)) in
      let third : unit_at src (suc (suc at)) ≡ [] =
      gives_none (get_or src at 0) (get_or src (suc (suc at)) 0) _ (omega (arith, s.0))
      (omega (arith, s.1.1.0)) in
      rw (
        first,
        second,
        third,
        rest (suc (suc (suc at))) (omega (arith, s.1.0))
            (omega (arith, s.1.1.0)) s.1.1.1,
      ) refl

  four_bytes : 0x1_0000 ≤ c → c < 0x11_0000
      → Goal ((240 + c / 262144) ∷ (128 + c / 4096 % 64) ∷ (128 + c / 64 % 64) ∷ (128 + c % 64)
      ∷ [])
      ((0xD800 + (c - 0x1_0000) / 0x400) ∷ (0xDC00 + (c - 0x1_0000) % 0x400) ∷ [])
  four_bytes beyond_basic below_most s =
      let last = suc (suc (suc at)) in
      let first : unit_at src at ≡ (0xD800 + (c - 0x1_0000) / 0x400) ∷ [] =
      rw (s.0, s.1.0, s.1.1.0)
      (gives_one (byte_two_before src at) (240 + c / 262144) (128 + c / 4096 % 64)
      (128 + c / 64 % 64) (0xD800 + (c - 0x1_0000) / 0x400) (grind (arith, nat_tests))
      (grind (arith, nat_tests))) in
      let second : unit_at src (suc at) ≡ [] =
      gives_none (byte_two_before src (suc at)) (get_or src (suc at) 0) _ no_fourth
      (omega (arith, s.1.0)) in
      let third : unit_at src (suc (suc at)) ≡ (0xDC00 + (c - 0x1_0000) % 0x400) ∷ [] =
      rw (s.1.1.0, s.1.1.1.0)
      (gives_one (get_or src at 0) (128 + c / 64 % 64) (128 + c % 64) (get_or src (suc last) 0)
      (0xDC00 + (c - 0x1_0000) % 0x400) (grind (arith, nat_tests, s.0))
      (grind (arith, nat_tests))) in
      let fourth : unit_at src last ≡ [] =
      gives_none (get_or src (suc at) 0) (get_or src last 0) _ (omega (arith, s.1.0))
      (omega (arith, s.1.1.1.0)) in
      rw (
        first,
        second,
        third,
        fourth,
        rest (suc last) (omega (arith, s.1.1.0))
            (omega (arith, s.1.1.1.0)) s.1.1.1.1,
      ) refl

  along : {u v u' v' : List ℕ} → u ≡ u' → v ≡ v' → Goal u' v' → Goal u v
  along {u} {v} {u'} {v'} p q g = subst (λ z. Goal z v) (sym p) (subst (Goal u') (sym q) g)

  one_more : IsScalar c → Form c → Goal (encode_utf8 c) (encode_utf16 c)
  one_more scalar (One low code) = along code (one_unit c (omega arith)) (one_byte low)
  one_more scalar (Two from below code) =
      along code (one_unit c (omega arith)) (two_bytes from below)
  one_more scalar (Three from below code) = along code (one_unit c below) (three_bytes from below)
  one_more scalar (Four from code) =
      along code (two_units c from) (four_bytes from (scalar_below c scalar))

pub units_of_utf8 : (src t : List ℕ) → AreScalars t → Gives src t
units_of_utf8 src [] a at y x s = refl
units_of_utf8 src (c ∷ t) a at y x s =
    let parts = and_parts _ _ a in
    one_more src c t (units_of_utf8 src t parts.1) at y x parts.0 (form_of c) s

-- one character of three bytes

-- its third byte continues, and its first begins no character of four
third_of_char : (src : List ℕ) (c : ℕ) (bytes : List ℕ) → Form c
    → Stand src 0 (encode_utf8 c ++ bytes) → length (encode_utf8 c ++ bytes) ≡ 3
    → 0xE0 ≤ get_or src 0 0
    → (get_or src 0 0 < 0xF0) × (0x80 ≤ get_or src 2 0) × (get_or src 2 0 < 0xC0)
third_of_char src c bytes (One low code) s three from =
    let stand = rw code at s in
    absurd (omega (arith, stand.0))
third_of_char src c bytes (Two above below code) s three from =
    let stand = rw code at s in
    absurd (omega (arith, stand.0))
third_of_char src c bytes (Three above below code) s three from =
    let stand = rw code at s in
    (omega (arith, stand.0), omega (arith, stand.1.1.0), omega (arith, stand.1.1.0))
third_of_char src c bytes (Four above code) s three from =
    let long = rw code at three in
    absurd (omega (arith, long))

third_of : (src t : List ℕ) → Stand src 0 (units_of_text encode_utf8 t)
    → length (units_of_text encode_utf8 t) ≡ 3 → 0xE0 ≤ get_or src 0 0
    → (get_or src 0 0 < 0xF0) × (0x80 ≤ get_or src 2 0) × (get_or src 2 0 < 0xC0)
third_of src [] s three from = absurd (omega arith)
third_of src (c ∷ t) s three from =
    third_of_char src c (units_of_text encode_utf8 t) (form_of c) s three from

-- so its first byte alone gives a code unit
pub three_bytes_unit : (src : List ℕ) → 3 ≤ length src → IsWellFormedUtf8 (take 3 src)
    → 0xE0 ≤ get_or src 0 0 → (0x80 ≤ get_or src 1 0) × (get_or src 1 0 < 0xC0)
    → units_from src 0 3
    ≡ code_unit_of_byte (get_or src 0 0) (get_or src 1 0) (get_or src 2 0) ∷ []
three_bytes_unit src within utf8 from second_in =
    let bytes : units_of_text encode_utf8 utf8.0 ≡ take 3 src = their_units utf8.0 ∙ utf8.1.1 in
    let last = third_of src utf8.0 (subst (Stand src 0) (sym bytes) (stands src 0 3 within))
    (omega (arith, lengths, ap length bytes)) from in
    let first : unit_at src 0
    ≡ code_unit_of_byte (get_or src 0 0) (get_or src 1 0) (get_or src 2 0) ∷ [] =
    gives_one 0 (get_or src 0 0) (get_or src 1 0) (get_or src 2 0) _ (grind (arith, nat_tests)) refl
    in
    let second : unit_at src 1 ≡ [] = gives_none 0 (get_or src 1 0) _ (omega arith) second_in in
    let third : unit_at src 2 ≡ [] =
    gives_none (get_or src 0 0) (get_or src 2 0) _ last.0 (last.1, last.2) in
    rw (first, second, third) refl

-- the code units of well-formed bytes in front are put out
pub puts_units : (before after : Output) (src : List ℕ) (n : ℕ) → n ≤ length src
    → length (units_from src 0 n) ≤ before.room → IsWellFormedUtf8 (take n src)
    → after ≡ with_appended before (units_from src 0 n)
    → PutsPieces encode_utf16 IsUtf8Char before after src n
puts_units before after src n within fits utf8 appended =
    let bytes : units_of_text encode_utf8 utf8.0 ≡ take n src = their_units utf8.0 ∙ utf8.1.1 in
    let long : length (units_of_text encode_utf8 utf8.0) ≡ n =
    omega (arith, lengths, ap length bytes) in
    let units : units_from src 0 n ≡ units_of_text encode_utf16 utf8.0 =
    sym (ap (units_from src 0) long)
    ∙ units_of_utf8 src utf8.0 utf8.1.0 0 (omega arith) (omega arith)
    (subst (Stand src 0) (sym bytes) (stands src 0 n (omega arith))) in
    record {
      text = utf8.0;
      scalars = utf8.1.0;
      reads = reads_utf8 src n within utf8;
      fits = omega (arith, ap length units);
      written = appended ∙ ap (with_appended before) units;
    }
