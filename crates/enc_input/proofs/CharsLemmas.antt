-- The code units of a text, and the characters of code units.
use Rattle.std.proofs.Common.{◌==◌, Option, Some, None, MatchOption, ◌≡◌, ℕ, ◌+◌, zero, suc, ◌<◌, ◌≤◌}
use Rattle.std.proofs.Common.{false, List, [], ◌∷◌, ◌++◌, length, get_or, drop, refl, ap, ◌∙◌, sym, arith}
use Rattle.std.proofs.Common.{length-append, encode_utf8, chars, IsUtf8, nat_le, nat_lt, ◌&&◌, ◌⊎◌}
use Rattle.std.proofs.Common.{inl, inr}
use Rattle.std.specs.Char.Escape.{encode_utf16}
use Rattle.std.specs.Char.Utf16.{utf16_lossy_chars, is_high_surrogate, is_low_surrogate, surrogate_pair_char}
use Rattle.std.proofs.lemmas.Str.{encodes-chars}
use Rattle.enc_utf8.proofs.LengthLemmas.{lengths}
use Rattle.enc_utf8.specs.Text.{units_of_text}
use Rattle.enc_utf8.specs.Surrogates.{lossy_unit_char, IsSurrogatePair, IsFirstUtf16Char}
use Rattle.std.proofs.lemmas.Bool.{cases_Bool}
use Rattle.std.proofs.lemmas.Bool.Decides.{nat_tests}
use Rattle.std.proofs.lemmas.List.{drop-drop}
use Rattle.enc_utf8.proofs.UnitsLemmas.{one_unit, two_units, lossy_nil, lossy_lone, lossy_pair, their_units}

pub utf8_length : (bs : List ℕ) → IsUtf8 bs
    → length bs ≡ length (units_of_text encode_utf8 (chars bs))
utf8_length bs u = sym (ap length (their_units (chars bs) ∙ encodes-chars bs u))

lone_narrow : (u : ℕ) → u < 0x1_0000 → lossy_unit_char u < 0x1_0000
lone_narrow u h =
    elim (cases_Bool (nat_le 0xD800 u && nat_lt u 0xE000))
    [ inl e ↦ rw e (omega arith) | inr e ↦ rw e h ]

pub first_lone : (us : List ℕ) → 1 ≤ length us → get_or us 0 0 < 0x1_0000
    → (IsSurrogatePair (get_or us 0 0) (get_or us 1 0) → ⊥)
    → IsFirstUtf16Char us (lossy_unit_char (get_or us 0 0)) 1
first_lone [] h f n = absurd (omega arith)
first_lone (u ∷ us) h f n = record {
  within = h;
  chars = lossy_lone u us n;
  width = sym (ap length (one_unit (lossy_unit_char u) (lone_narrow u f)));
}

pub first_pair : (us : List ℕ) → IsSurrogatePair (get_or us 0 0) (get_or us 1 0)
    → IsFirstUtf16Char us (surrogate_pair_char (get_or us 0 0) (get_or us 1 0)) 2
first_pair [] pair = absurd (omega arith)
first_pair (u ∷ []) pair = absurd (omega arith)
first_pair (u ∷ v ∷ us) pair = record {
  within = omega arith;
  chars = lossy_pair u v us pair;
  width = sym (ap length (two_units (surrogate_pair_char u v) (omega arith)));
}

decide_pair : (u v : ℕ) → IsSurrogatePair u v ⊎ (IsSurrogatePair u v → ⊥)
decide_pair u v = elim (cases_Bool (is_high_surrogate u && is_low_surrogate v)) [
  | inl e ↦ inl (grind (arith, nat_tests))
  | inr e ↦ inr (λ p. grind (arith, nat_tests))
]

abbrev pub AreUnits : List ℕ → Type 0
AreUnits us = (i : ℕ) → get_or us i 0 < 0x1_0000

step : (us : List ℕ) (c n : ℕ) → IsFirstUtf16Char us c n
    → length (drop n us) ≡ length (units_of_text encode_utf16 (utf16_lossy_chars (drop n us)))
    → length us ≡ length (units_of_text encode_utf16 (utf16_lossy_chars us))
step us c n begins e =
    rw (begins.chars, length-append)
    (omega (arith, lengths, begins.within, begins.width, e))

pub utf16_length : (us : List ℕ) → AreUnits us
    → length us ≡ length (units_of_text encode_utf16 (utf16_lossy_chars us))
utf16_length [] are_units = rw lossy_nil refl
utf16_length (u ∷ []) are_units =
    step (u ∷ []) _ 1 (first_lone (u ∷ []) (omega arith) (are_units 0) (λ p. omega (arith, p.2)))
    (rw lossy_nil refl)
utf16_length (u ∷ v ∷ us) are_units = elim (decide_pair u v) [
  | inl p ↦ step (u ∷ v ∷ us) _ 2 (first_pair (u ∷ v ∷ us) p)
      (utf16_length us (λ i. are_units (suc (suc i))))
  | inr n ↦ step (u ∷ v ∷ us) _ 1 (first_lone (u ∷ v ∷ us) (omega arith) (are_units 0) n)
      (utf16_length (v ∷ us) (λ i. are_units (suc i)))
]

-- The characters of the rest, after the units of the first characters.

record HasFirst (us : List ℕ) : Type 0 where
  char : ℕ
  units : ℕ
  first : IsFirstUtf16Char us char units

first_of : (us : List ℕ) → 1 ≤ length us → AreUnits us → HasFirst us
first_of us some are_units = elim (decide_pair (get_or us 0 0) (get_or us 1 0)) [
  | inl pair ↦ record { char = _; units = 2; first = first_pair us pair }
  | inr lone ↦ record { char = _; units = 1; first = first_lone us some (are_units 0) lone }
]

units-drop : (n : ℕ) (us : List ℕ) → AreUnits us → AreUnits (drop n us)
units-drop zero us are_units = are_units
units-drop (suc n) [] are_units = are_units
units-drop (suc n) (u ∷ us) are_units = units-drop n us (λ i. are_units (suc i))

heads : {a b : ℕ} {y z : List ℕ} → a ∷ y ≡ b ∷ z → a ≡ b
heads e = cc

tails : {a b : ℕ} {y z : List ℕ} → a ∷ y ≡ b ∷ z → y ≡ z
tails e = cc

pub lossy_after : (us : List ℕ) → AreUnits us → (cs rest : List ℕ)
    → utf16_lossy_chars us ≡ cs ++ rest
    → utf16_lossy_chars (drop (length (units_of_text encode_utf16 cs)) us) ≡ rest
lossy_after us are_units [] rest whole = whole
lossy_after [] are_units (c ∷ cs) rest whole =
    absurd (let nil_is_cons : [] ≡ c ∷ (cs ++ rest) = sym lossy_nil ∙ whole in cc)
lossy_after (u ∷ us) are_units (c ∷ cs) rest whole =
    let begins = first_of (u ∷ us) (omega arith) are_units in
    let same = sym begins.first.chars ∙ whole in
    let rest_length = length (units_of_text encode_utf16 cs) in
    let whole_length : length (units_of_text encode_utf16 (c ∷ cs)) ≡ begins.units + rest_length =
    length-append (encode_utf16 c) (units_of_text encode_utf16 cs)
    ∙ ap (λ d. length (encode_utf16 d) + rest_length) (sym (heads same))
    ∙ ap (λ k. k + rest_length) (sym begins.first.width) in
    ap (λ k. utf16_lossy_chars (drop k (u ∷ us))) whole_length
    ∙ ap utf16_lossy_chars (sym (drop-drop rest_length begins.units (u ∷ us)))
    ∙ lossy_after (drop begins.units (u ∷ us)) (units-drop begins.units (u ∷ us) are_units) cs rest
    (tails same)

pub peeks : (us : List ℕ) (r : Option (ℕ × ℕ))
    → MatchOption r (us ≡ []) (λ p. IsFirstUtf16Char us p.0 p.1)
    → MatchOption r (utf16_lossy_chars us ≡ [])
    (λ p. utf16_lossy_chars us ≡ p.0 ∷ drop 1 (utf16_lossy_chars us))
peeks us None e = rw e lossy_nil
peeks us (Some p) f = rw f.chars refl

pub some_units : (us : List ℕ) → false ≡ (length us == 0) → 1 ≤ length us
some_units [] h = cc
some_units (u ∷ us) h = omega arith

-- a first unit beyond ASCII is of a character beyond ASCII

high_lone : (u : ℕ) → 0x80 ≤ u → 0x80 ≤ lossy_unit_char u
high_lone u h = elim (cases_Bool (nat_le 0xD800 u && nat_lt u 0xE000)) [
  | inl e ↦ rw e
      (omega arith)
  | inr e ↦ rw e h
]

pub beyond_ascii : (us : List ℕ) (c n : ℕ) → IsFirstUtf16Char us c n → 0x80 ≤ get_or us 0 0
    → 0x80 ≤ c
beyond_ascii [] c n begins is_beyond_ascii = absurd (omega (arith, is_beyond_ascii))
beyond_ascii (u ∷ us) c n begins is_beyond_ascii = elim (decide_pair u (get_or us 0 0)) [
  | inl pair ↦
      let same = heads (sym (first_pair (u ∷ us) pair).chars ∙ begins.chars) in
      omega (arith, same)
  | inr lone ↦
      let same = heads (sym (lossy_lone u us lone) ∙ begins.chars) in
      omega (arith, same, high_lone u is_beyond_ascii)
]
