-- The code units of a text: they determine it, and those of UTF-16 are read back as it.
use Rattle.std.proofs.Common.{◌≡◌, ℕ, ◌+◌, ◌-◌, ◌/◌, ◌%◌, ◌<◌, ◌≤◌, false, List, [], ◌∷◌, ◌++◌, map, refl, ap, ◌∙◌, sym}
use Rattle.std.proofs.Common.{arith, inl, inr, get_or, nat_le, nat_lt, ◌&&◌, take, append_assoc}
use Rattle.std.proofs.lemmas.Bool.{and_parts, cases_lt, lt-ltb, le-ltb}
use Rattle.std.proofs.lemmas.Bool.Decides.{nat_tests}
use Rattle.std.proofs.lemmas.Str.{encodes_same, utf16_chars-nil, utf16_chars_lone, utf16_chars_pair, encode_ascii}
use Rattle.std.specs.Char.{encode_utf8, IsScalar}
use Rattle.std.specs.Char.Escape.{encode_utf16}
use Rattle.std.specs.Char.Utf16.{utf16_lossy_chars, surrogate_pair_char}
use Rattle.std.specs.Option.{unwrap_or}
use Rattle.enc_utf8.specs.Text.{AreScalars, DetermineTexts, units_of_text}
use Rattle.enc_utf8.specs.Surrogates.{lossy_unit_char, IsSurrogatePair}
use Rattle.enc_utf8.proofs.ScalarLemmas.{one_scalar, ascii_scalars}
use Rattle.enc_utf8.proofs.Utf8FormLemmas.{scalar_below}
use Rattle.std.specs.Str.{IsUtf8, encode_utf8_all}
use Rattle.enc_utf8.proofs.PieceListLemmas.{own_text}
use Rattle.enc_utf8.specs.Validity.{AreAscii}

pub their_units : (cs : List ℕ) → units_of_text encode_utf8 cs ≡ encode_utf8_all cs
their_units [] = refl
their_units (c ∷ cs) = ap (λ x. encode_utf8 c ++ x) (their_units cs)

pub utf_8_determines : DetermineTexts encode_utf8
utf_8_determines t u s r e = encodes_same t u (sym (their_units t) ∙ e ∙ their_units u)

-- UTF-16: one unit, or two

pub one_unit : (c : ℕ) → c < 0x1_0000 → encode_utf16 c ≡ c ∷ []
one_unit c h = rw (lt-ltb c 0x1_0000 h) refl

pub two_units : (c : ℕ) → 0x1_0000 ≤ c
    → encode_utf16 c ≡ (0xD800 + (c - 0x1_0000) / 0x400) ∷ (0xDC00 + (c - 0x1_0000) % 0x400) ∷ []
two_units c h = rw (le-ltb c 0x1_0000 h) refl

-- code units that are read

pub lossy_nil : utf16_lossy_chars [] ≡ []
lossy_nil = ap (map (λ o. unwrap_or o 0xFFFD)) utf16_chars-nil

pub lossy_lone : (u : ℕ) (us : List ℕ) → ¬ (IsSurrogatePair u (get_or us 0 0))
    → utf16_lossy_chars (u ∷ us) ≡ lossy_unit_char u ∷ utf16_lossy_chars us
lossy_lone u us n = ap (map (λ o. unwrap_or o 0xFFFD)) (utf16_chars_lone u us n)

pub lossy_pair : (u v : ℕ) (us : List ℕ) → IsSurrogatePair u v
    → utf16_lossy_chars (u ∷ v ∷ us) ≡ surrogate_pair_char u v ∷ utf16_lossy_chars us
lossy_pair u v us p = ap (map (λ o. unwrap_or o 0xFFFD)) (utf16_chars_pair u v us p)

-- a code unit that is no surrogate is a character by itself

scalar_unit : (u : ℕ) → IsScalar u → lossy_unit_char u ≡ u
scalar_unit u is_scalar =
    let none : (nat_le 0xD800 u && nat_lt u 0xE000) ≡ false = grind (arith, nat_tests) in
    rw none refl

no_pair : (u v : ℕ) → IsScalar u → IsSurrogatePair u v → ⊥
no_pair u v is_scalar pair = grind (arith, nat_tests)

pub lossy_scalars : (us rest : List ℕ) → AreScalars us
    → utf16_lossy_chars (us ++ rest) ≡ us ++ utf16_lossy_chars rest
lossy_scalars [] rest are_scalars = refl
lossy_scalars (u ∷ us) rest are_scalars =
    let parts = and_parts _ _ are_scalars in
    lossy_lone u (us ++ rest) (no_pair u _ parts.0)
    ∙ ap (λ x. x ∷ utf16_lossy_chars (us ++ rest)) (scalar_unit u parts.0)
    ∙ ap (λ x. u ∷ x) (lossy_scalars us rest parts.1)

-- read back, they are the text

one_back : (c : ℕ) (us : List ℕ) → IsScalar c
    → utf16_lossy_chars (encode_utf16 c ++ us) ≡ c ∷ utf16_lossy_chars us
one_back c us scalar = elim (cases_lt c 0x1_0000) [
  | inl one ↦
      ap (λ z. utf16_lossy_chars (z ++ us)) (one_unit c one)
      ∙ lossy_scalars (c ∷ []) us (one_scalar c scalar)
  | inr two ↦
      let in_range = scalar_below c scalar in
      let lead = 0xD800 + (c - 0x1_0000) / 0x400 in
      let trail = 0xDC00 + (c - 0x1_0000) % 0x400 in
      let back : surrogate_pair_char lead trail ≡ c = omega arith in
      ap (λ z. utf16_lossy_chars (z ++ us)) (two_units c two)
      ∙ lossy_pair lead trail us (omega arith, omega arith, omega arith, omega arith)
      ∙ ap (λ x. x ∷ utf16_lossy_chars us) back
]

pub utf_16_read_back : (t : List ℕ) → AreScalars t
    → utf16_lossy_chars (units_of_text encode_utf16 t) ≡ t
utf_16_read_back [] s = lossy_nil
utf_16_read_back (c ∷ t) s =
    let scalar_parts = and_parts _ _ s in
    one_back c (units_of_text encode_utf16 t) scalar_parts.0
    ∙ ap (λ z. c ∷ z) (utf_16_read_back t scalar_parts.1)

pub utf_16_determines : DetermineTexts encode_utf16
utf_16_determines t u scalars other_scalars same =
    sym (utf_16_read_back t scalars) ∙ ap utf16_lossy_chars same
    ∙ utf_16_read_back u other_scalars

-- ASCII bytes are their own code units in UTF-16 too
pub ascii_units_16 : (bs : List ℕ) → AreAscii bs → units_of_text encode_utf16 bs ≡ bs
ascii_units_16 bs are_ascii = own_text encode_utf16 bs (λ k d inside.
    let is_ascii = are_ascii k d inside in
    one_unit _ (omega arith))

-- ASCII is well-formed UTF-8, and so is the UTF-8 of a text
pub text_utf8 : (units text : List ℕ) → AreScalars text → units ≡ units_of_text encode_utf8 text
    → IsUtf8 units
text_utf8 units text s e = (text, (s, sym (their_units text) ∙ sym e))

-- ASCII bytes are their own code units
pub ascii_units : (bs : List ℕ) → AreAscii bs → units_of_text encode_utf8 bs ≡ bs
ascii_units bs are_ascii =
    own_text encode_utf8 bs (λ k d inside. encode_ascii _ (are_ascii k d inside))

pub ascii_utf8 : (bytes : List ℕ) (n : ℕ) → AreAscii (take n bytes) → IsUtf8 (take n bytes)
ascii_utf8 bytes n ascii =
    text_utf8 (take n bytes) (take n bytes) (ascii_scalars (take n bytes) ascii)
    (sym (ascii_units (take n bytes) ascii))

pub units-append : (units_of : ℕ → List ℕ) (cs ds : List ℕ)
    → units_of_text units_of (cs ++ ds) ≡ units_of_text units_of cs ++ units_of_text units_of ds
units-append units_of [] ds = refl
units-append units_of (c ∷ cs) ds =
    ap (λ t. units_of c ++ t) (units-append units_of cs ds)
    ∙ sym (append_assoc (units_of c) (units_of_text units_of cs) (units_of_text units_of ds))
