-- The lengths that the formulas give are enough.
use Rattle.std.proofs.Common.{◌≡◌, ℕ, ◌+◌, ◌*◌, ◌^◌, ◌<◌, ◌≤◌, inl, inr, Bool, true, false, cond, nat_lt, Option, Some}
use Rattle.std.proofs.Common.{None, List, [], ◌∷◌, ◌++◌, length, refl, ap, arith, length-append, if◌then◌else◌}
use Rattle.std.specs.Char.{encode_utf8}
use Rattle.std.specs.Char.Escape.{encode_utf16}
use Rattle.std.proofs.Math.Nat.{mul-add}
use Rattle.std.proofs.lemmas.Nat.{mul-le}
use Rattle.std.proofs.lemmas.Bool.{cases_lt}
use Rattle.std.proofs.lemmas.Bool.Decides.{nat_tests}
use Rattle.std.proofs.lemmas.Str.{length-encode, len_utf8_bounds}
use Rattle.enc_utf8.specs.Text.{units_of_text}
use Rattle.enc_utf8.specs.Checked.{checked_usize, checked_add, checked_mul}
use Rattle.enc_encoder.specs.declared.byte_lengths.ByteLengths.{ByteLengths}
use Rattle.enc_encoder.specs.declared.byte_lengths.ByteLengths.TheVariants.{Utf8, OneByte, TwoBytes, Gb18030, Iso2022Jp}
use Rattle.enc_encoder.specs.declared.character_set.CharacterSet.{CharacterSet}
use Rattle.enc_encoder.specs.declared.character_set.CharacterSet.TheVariants.{Ascii}
use Rattle.enc_encoder.specs.EncoderRule.{EncoderRule, set_for}
use Rattle.enc_encoder.specs.Text.{escape_sequence, escape_before}
use Rattle.enc_encoder.specs.Steps.{Step, char_step, escape_step, first_written_char, steps_at_end, steps_of}
use Rattle.enc_encoder.specs.Steps.{step_bytes}
use Rattle.enc_encoder.specs.Lengths.{from_utf_8_length, from_utf_16_length, max_bytes_per_utf_8_unit}
use Rattle.enc_encoder.specs.Lengths.{max_bytes_per_utf_16_unit}
use Rattle.enc_encoder.specs.Need.{steps_before_report, AreEnoughForEncoder}
use Rattle.enc_encoder.specs.Stateless.{stateless_rule, stateless_state, WritesAscii, KeepsLengths}
use Rattle.enc_encoder.proofs.SizeLemmas.{size}

-- how many code units a character has

two_or_more : (a b : Bool) → 2 ≤ cond a 2 (cond b 3 4)
two_or_more true b = omega arith
two_or_more false true = omega arith
two_or_more false false = omega arith

up_to_three : (a b : Bool) → cond a 1 (cond b 2 3) ≤ 3
up_to_three true b = omega arith
up_to_three false true = omega arith
up_to_three false false = omega arith

beyond_ascii : (c : ℕ) → 0x80 ≤ c → 2 ≤ length (encode_utf8 c)
beyond_ascii c l =
    let high : nat_lt c 0x80 ≡ false = grind (arith, nat_tests) in
    rw (length-encode c, high) (two_or_more (nat_lt c 0x800) (nat_lt c 0x1_0000))

pub some_of_utf_8 : (c : ℕ) → 1 ≤ length (encode_utf8 c)
some_of_utf_8 c = omega (arith, length-encode c, len_utf8_bounds c)

units_by : (c : ℕ) (b : Bool) → nat_lt c 0x1_0000 ≡ b
    → (1 ≤ length (encode_utf16 c)) × (length (encode_utf8 c) ≤ 3 * length (encode_utf16 c))
units_by c true e = rw (length-encode c, e)
    (omega arith, up_to_three (nat_lt c 0x80) (nat_lt c 0x800))
units_by c false e =
    let few = len_utf8_bounds c in
    let len = length-encode c in
    rw e (omega arith, omega (arith, few, len))

pub some_of_utf_16 : (c : ℕ) → 1 ≤ length (encode_utf16 c)
some_of_utf_16 c = (units_by c (nat_lt c 0x1_0000) refl).0

-- UTF-8 is at most three times as long as UTF-16
pub from_utf_16_to_8 : (c : ℕ) → length (encode_utf8 c) ≤ 3 * length (encode_utf16 c)
from_utf_16_to_8 c = (units_by c (nat_lt c 0x1_0000) refl).1

-- a character has a bytes, with an escape sequence before it; the formula gives k for each code
-- unit

pub within_utf_8 : (a k c : ℕ) → (c < 0x80 → a ≤ k) → a ≤ 2 * k → a ≤ k * length (encode_utf8 c)
within_utf_8 a k c low all = elim (cases_lt c 0x80) [
  | inl l ↦
      let one = mul-le k 1 k (length (encode_utf8 c)) (omega arith) (some_of_utf_8 c) in
      omega (arith, low l, one)
  | inr h ↦
      let two = mul-le k 2 k (length (encode_utf8 c)) (omega arith) (beyond_ascii c h) in
      omega (arith, all, two)
]

pub within_utf_16 : (a k c : ℕ) → a ≤ k → a ≤ k * length (encode_utf16 c)
within_utf_16 a k c all =
    omega (arith, all, mul-le k 1 k (length (encode_utf16 c)) (omega arith) (some_of_utf_16 c))

-- an encoding without escape sequences keeps its lengths

one_in_ascii : (bytes : ℕ → Option (List ℕ)) → WritesAscii bytes → (c : ℕ) → c < 0x80
    → size (bytes c) ≡ 1
one_in_ascii bytes h c l = ap size (h c l)

pub keeps : (n : ℕ) (lengths : ByteLengths) (bytes : ℕ → Option (List ℕ)) → WritesAscii bytes
    → ((c : ℕ) → size (bytes c) ≤ n)
    → 1 ≤ max_bytes_per_utf_8_unit lengths → n ≤ 2 * max_bytes_per_utf_8_unit lengths
    → n ≤ max_bytes_per_utf_16_unit lengths → KeepsLengths lengths bytes
keeps n lengths bytes ascii most one two all = record {
  by_utf_8 =
      λ c. within_utf_8 (size (bytes c)) (max_bytes_per_utf_8_unit lengths) c
      (λ l. omega (arith, one, one_in_ascii bytes ascii c l)) (omega (arith, most c, two));
  by_utf_16 = λ c. within_utf_16 (size (bytes c)) (max_bytes_per_utf_16_unit lengths) c
      (omega (arith, most c, all));
}

-- the bytes before the first report

abbrev pub count : List Step → ℕ
count ps = length (step_bytes (steps_before_report ps))

count_escaping : (has : Bool) (x : CharacterSet) (ps : List Step)
    → count ((if has then [] else escape_step x ∷ []) ++ ps)
    ≡ length (if has then [] else escape_sequence x) + count ps
count_escaping true x ps = omega arith
count_escaping false x ps = length-append (escape_sequence x) (step_bytes (steps_before_report ps))

count_char : (e : EncoderRule) (s : CharacterSet) (c : ℕ) (b : Option (List ℕ)) (ps : List Step)
    → count (char_step e s c b ∷ ps) ≤ size b + count ps
count_char e s c None ps = omega arith
count_char e s c (Some b) ps = omega (arith, length-append b (step_bytes (steps_before_report ps)))

-- the values of the formulas

fits_is : (n q : ℕ) (b : Bool) → (if b then Some n else None) ≡ Some q → n ≡ q
fits_is n q true e = cc
fits_is n q false e = cc

fitting_is : (n q : ℕ) → checked_usize n ≡ Some q → n ≡ q
fitting_is n q e = fits_is n q (nat_lt n (2 ^ 64)) e

pub plus_is : (o : Option ℕ) (b q : ℕ) → checked_add o b ≡ Some q → (a : ℕ)
    × ((o ≡ Some a) × (a + b ≡ q))
plus_is None b q e = cc
plus_is (Some a) b q e = (a, (refl, fitting_is (a + b) q e))

-- the bytes that they have for the end
abbrev pub ending : ByteLengths → ℕ
ending Iso2022Jp = 3
ending _ = 0

some_is : (n q : ℕ) → Some n ≡ Some q → n ≡ q
some_is n q e = cc

utf_8_length_is : (lengths : ByteLengths) (n q : ℕ) → from_utf_8_length lengths n ≡ Some q
    → max_bytes_per_utf_8_unit lengths * n + ending lengths ≡ q
utf_8_length_is Utf8 n q e = omega (arith, some_is n q e)
utf_8_length_is OneByte n q e = omega (arith, some_is n q e)
utf_8_length_is TwoBytes n q e = omega (arith, some_is n q e)
utf_8_length_is Gb18030 n q e = omega (arith, fitting_is (n * 2) q e)
utf_8_length_is Iso2022Jp n q e =
    let sum = plus_is (checked_mul (Some n) 4) 3 q e in
    omega (arith, fitting_is (n * 4) sum.0 sum.1.0, sum.1.1)

utf_16_length_is : (lengths : ByteLengths) (n q : ℕ) → from_utf_16_length lengths n ≡ Some q
    → max_bytes_per_utf_16_unit lengths * n + ending lengths ≡ q
utf_16_length_is Utf8 n q e = omega (arith, fitting_is (n * 3) q e)
utf_16_length_is OneByte n q e = omega (arith, some_is n q e)
utf_16_length_is TwoBytes n q e = omega (arith, fitting_is (n * 2) q e)
utf_16_length_is Gb18030 n q e = omega (arith, fitting_is (n * 4) q e)
utf_16_length_is Iso2022Jp n q e =
    let sum = plus_is (checked_mul (Some n) 5) 3 q e in
    omega (arith, fitting_is (n * 5) sum.0 sum.1.0, sum.1.1)

-- the bytes of a character, with the escape sequence before it
abbrev pub cost : EncoderRule → CharacterSet → ℕ → ℕ
cost e s c = length (escape_before e s (first_written_char c (e.bytes c))) + size (e.bytes c)

-- Where the bytes of each character, with the escape sequence before it, and of the escape sequence
-- at the end are no more than the formulas have for them, so it is of the whole: in sets that are
-- designated one after another.
module _ (lengths : ByteLengths) (e : EncoderRule) (Comes : CharacterSet → Type 0)
    (comes : (s : CharacterSet) (c : ℕ) → Comes s → Comes (set_for e s c))
    (ends : (s : CharacterSet) → Comes s → count (steps_at_end s) ≤ ending lengths) where
  bounded : (units_of : ℕ → List ℕ) (k : ℕ)
      → ((s : CharacterSet) (c : ℕ) → Comes s → cost e s c ≤ k * length (units_of c))
      → (last : Bool) (t : List ℕ) (s : CharacterSet) → Comes s
      → count (steps_of e last s t) ≤ k * length (units_of_text units_of t) + ending lengths
  unfolding steps_of
  bounded units_of k each true [] s it_comes = omega (arith, ends s it_comes)
  bounded units_of k each false [] s it_comes = omega arith
  bounded units_of k each last (c ∷ t) s it_comes =
      let first_char = first_written_char c (e.bytes c) in
      let rest = steps_of e last (set_for e s first_char) t in
      let front =
      count_escaping (e.has s first_char) (e.designated first_char)
      (char_step e (set_for e s first_char) c (e.bytes c) ∷ rest) in
      let char = count_char e (set_for e s first_char) c (e.bytes c) rest in
      let others = bounded units_of k each last t (set_for e s first_char)
      (comes s first_char it_comes) in
      let one = each s c it_comes in
      let units = length-append (units_of c) (units_of_text units_of t) in
      let parts = mul-add k (length (units_of c)) (length (units_of_text units_of t)) in
      omega (arith, front, char, others, one, ap (λ n. k * n) units, parts)

  pub enough : ((s : CharacterSet) (c : ℕ) → Comes s
      → cost e s c ≤ max_bytes_per_utf_8_unit lengths * length (encode_utf8 c))
      → ((s : CharacterSet) (c : ℕ) → Comes s
      → cost e s c ≤ max_bytes_per_utf_16_unit lengths * length (encode_utf16 c))
      → (s : CharacterSet) → Comes s
      → AreEnoughForEncoder lengths (record { rule = e; set = s })
  enough each_of_8 each_of_16 s it_comes = record {
    from_utf_8 = λ t last q is.
        let need = bounded encode_utf8 _ each_of_8 last t s it_comes in
        omega (arith, utf_8_length_is lengths (length (units_of_text encode_utf8 t)) q is, need);
    from_utf_16 = λ t last q is.
        let need = bounded encode_utf16 _ each_of_16 last t s it_comes in
        omega (arith, utf_16_length_is lengths (length (units_of_text encode_utf16 t)) q is, need);
  }

-- without escape sequences

none_at_end : (n : ℕ) (s : CharacterSet) → s ≡ Ascii → count (steps_at_end s) ≤ n
none_at_end n Ascii is_ascii = omega arith
none_at_end n _ is_ascii = cc

pub stateless_enough : (lengths : ByteLengths) (bytes : ℕ → Option (List ℕ))
    → KeepsLengths lengths bytes → AreEnoughForEncoder lengths (stateless_state bytes)
stateless_enough lengths bytes keeps_lengths =
    enough lengths (stateless_rule bytes) (λ s. s ≡ Ascii) (λ s c is_ascii. is_ascii)
    (none_at_end (ending lengths)) (λ s c _. omega (arith, keeps_lengths.by_utf_8 c))
    (λ s c _. omega (arith, keeps_lengths.by_utf_16 c)) Ascii refl

-- an escape sequence has three bytes

three_in : (s : CharacterSet) → length (escape_sequence s) ≡ 3
three_in Ascii = refl
three_in _ = refl

pub three_before : (has : Bool) (x : CharacterSet)
    → length (if has then [] else escape_sequence x) ≤ 3
three_before true x = omega arith
three_before false x = omega (arith, three_in x)

pub three_at_end : (s : CharacterSet) → count (steps_at_end s) ≤ 3
three_at_end Ascii = omega arith
three_at_end _ = omega arith
