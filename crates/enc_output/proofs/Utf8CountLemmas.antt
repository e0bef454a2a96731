-- How many code units the last bytes of a text in UTF-8 give.
use Rattle.std.proofs.Common.{◌≡◌, ℕ, suc, ◌+◌, ◌-◌, ◌*◌, ◌<◌, ◌≤◌, List, [], ◌∷◌, ◌++◌, inl, inr}
use Rattle.std.proofs.Common.{refl, length, take, ap, ◌∙◌, sym, subst, arith}
use Rattle.std.proofs.lemmas.Bool.{and_parts, cases_lt}
use Rattle.std.specs.Char.{encode_utf8}
use Rattle.std.specs.Char.Escape.{encode_utf16}
use Rattle.enc_utf8.specs.Text.{AreScalars, units_of_text}
use Rattle.enc_utf8.specs.Validity.{IsWellFormedUtf8}
use Rattle.enc_output.specs.Utf8Units.{byte_two_before, units_from}
use Rattle.enc_utf8.proofs.Utf8FormLemmas.{Form, One, Two, Three, Four, form_of}
use Rattle.enc_utf8.proofs.LengthLemmas.{lengths}
use Rattle.enc_utf8.proofs.UnitsLemmas.{one_unit, two_units, their_units}
use Rattle.enc_output.proofs.Utf8TextLemmas.{Stand, stands, units_of_utf8}
use Rattle.enc_output.proofs.Utf8UnitsLemmas.{units_then}

abbrev bytes_of : List ℕ → List ℕ
bytes_of = units_of_text encode_utf8

abbrev text_units : List ℕ → List ℕ
text_units = units_of_text encode_utf16

-- a code unit stands for three bytes at most

char_wide : (c : ℕ) → Form c → length (encode_utf8 c) ≤ 3 * length (encode_utf16 c)
char_wide c (One low code) = omega (arith, ap length code, ap length (one_unit c (omega arith)))
char_wide c (Two from below code) =
    omega (arith, ap length code, ap length (one_unit c (omega arith)))
char_wide c (Three from below code) = omega (arith, ap length code, ap length (one_unit c below))
char_wide c (Four from code) = omega (arith, ap length code, ap length (two_units c from))

text_wide : (t : List ℕ) → length (bytes_of t) ≤ 3 * length (text_units t)
text_wide [] = omega arith
text_wide (c ∷ t) = omega (arith, lengths, char_wide c (form_of c), text_wide t)

-- the bytes from any place in a text on

abbrev Enough : List ℕ → ℕ → ℕ → Type 0
Enough src at n = (from : ℕ) → at ≤ from → from ≤ at + n
    → at + n - from ≤ 3 * length (units_from src from (at + n - from)) + 4

abbrev Counts : List ℕ → List ℕ → Type 0
Counts src t = (at : ℕ) → byte_two_before src at < 0xF0 → byte_two_before src (suc at) < 0xF0
    → Stand src at (bytes_of t) → Enough src at (length (bytes_of t))

module _ (src : List ℕ) (t : List ℕ) (scalars : AreScalars t) (rest : Counts src t) (at : ℕ)
    (y : byte_two_before src at < 0xF0) (no_fourth : byte_two_before src (suc at) < 0xF0) where
  after_char : (m next n : ℕ) → m ≤ 4 → next ≡ at + m → n ≡ m + length (bytes_of t)
      → byte_two_before src next < 0xF0 → byte_two_before src (suc next) < 0xF0
      → Stand src next (bytes_of t) → Enough src at n
  after_char m next n few is is_all y x s from low high = elim (cases_lt from next) [
    | inr h ↦
        let more = length (bytes_of t) in
        let same : next + more - from ≡ at + n - from = omega arith in
        subst (λ n. n ≤ 3 * length (units_from src from n) + 4) same
        (rest next y x s from h (omega arith))
    | inl h ↦
        let more = length (bytes_of t) in
        let first = next - from in
        let count : first + more ≡ at + n - from = omega arith in
        let place : from + first ≡ next = omega arith in
        let units = units_of_utf8 src t scalars next y x s in
        subst (λ n. n ≤ 3 * length (units_from src from n) + 4) count
        (omega (
          arith,
          lengths,
          text_wide t,
          ap length units,
          ap length (units_then src from first more {place = next} (sym place) refl),
        ))
  ]

  abbrev Goal : List ℕ → Type 0
  Goal u = Stand src at (u ++ bytes_of t) → Enough src at (length (u ++ bytes_of t))

  along : {u v : List ℕ} → u ≡ v → Goal v → Goal u
  along p g = subst Goal (sym p) g

  one_more : (c : ℕ) → Form c → Goal (encode_utf8 c)
  one_more c (One low code) = along code (λ s.
      after_char 1 (suc at) _ (omega arith) (omega arith) (omega arith) no_fourth
      (omega (arith, s.0)) s.1)
  one_more c (Two from below code) = along code (λ s.
      after_char 2 (suc (suc at)) _ (omega arith) (omega arith) (omega arith)
      (omega (arith, s.0)) (omega (arith, s.1.0)) s.1.1)
  one_more c (Three from below code) = along code (λ s.
      after_char 3 (suc (suc (suc at))) _ (omega arith) (omega arith) (omega arith)
      (omega (arith, s.1.0)) (omega (arith, s.1.1.0)) s.1.1.1)
  one_more c (Four from code) = along code (λ s.
      after_char 4 (suc (suc (suc (suc at)))) _ (omega arith) (omega arith) (omega arith)
      (omega (arith, s.1.1.0)) (omega (arith, s.1.1.1.0)) s.1.1.1.1)

counts : (src t : List ℕ) → AreScalars t → Counts src t
counts src [] a at y x s = λ from low high. omega arith
counts src (c ∷ t) a at y x s =
    let scalar_parts = and_parts _ _ a in
    one_more src t scalar_parts.1 (counts src t scalar_parts.1) at y x c (form_of c) s

-- 52 bytes at the end give sixteen code units at least
pub enough_units : (src : List ℕ) (len from : ℕ) → len ≤ length src
    → IsWellFormedUtf8 (take len src) → from + 52 ≤ len
    → 16 ≤ length (units_from src from (len - from))
enough_units src len from within utf8 far =
    let bytes : bytes_of utf8.0 ≡ take len src = their_units utf8.0 ∙ utf8.1.1 in
    let long : 0 + length (bytes_of utf8.0) ≡ len =
    omega (arith, lengths, ap length bytes) in
    let enough = subst (λ n. n - from ≤ 3 * length (units_from src from (n - from)) + 4) long
    (counts src utf8.0 utf8.1.0 0 (omega arith) (omega arith)
    (subst (Stand src 0) (sym bytes) (stands src 0 len (omega arith))) from (omega arith)
    (omega arith)) in
    omega (arith, enough)
