-- Runs of characters that are read from UTF-8.
use Rattle.std.proofs.Common.{◌≡◌, ℕ, suc, ◌+◌, ◌*◌, ◌%◌, ◌<◌, ◌≤◌, true, List, [], ◌∷◌, ◌++◌, length, get_or}
use Rattle.std.proofs.Common.{take, drop, refl, ap, ◌∙◌, sym, subst, arith, take-append-drop, chars, IsUtf8, inl, inr}
use Rattle.std.proofs.lemmas.Bool.{and_parts, cases_lt}
use Rattle.std.proofs.lemmas.Bool.Decides.{nat_tests}
use Rattle.std.proofs.lemmas.List.{get_or-drop}
use Rattle.std.proofs.lemmas.Str.{chars_past_char, IsUtf8-past_char, encode_ascii, IsUtf8-take, IsUtf8-drop}
use Rattle.std.proofs.lemmas.Str.{scalars-chars, chars-append, encodes-chars}
use Rattle.std.proofs.Math.Seq.{drop-append_seam}
use Rattle.std.specs.Char.{IsScalar, encode_utf8}
use Rattle.std.specs.Str.{all_scalars, encode_utf8_all, IsCharBoundary}
use Rattle.enc_input.specs.Mappings.{IsFirstUtf8Char, AreWrittenAsUtf8, WritesFront, WritesThemselves}
use Rattle.enc_input.specs.Utf8Bytes.{short_unit, lead_bit}
use Rattle.enc_utf8.specs.Validity.{AreAscii}
use Rattle.enc_utf8.proofs.LengthLemmas.{lengths}
use Rattle.enc_input.proofs.MappingLemmas.{maps_utf8}
use Rattle.enc_utf8.proofs.PutLemmas.{Put}
use Rattle.enc_utf8.proofs.UnitsLemmas.{their_units}
use Rattle.enc_utf8.proofs.Utf8FormLemmas.{Form, One, Two, Three, Four, form_of, scalar_below}
use Rattle.enc_input.proofs.WriteLoopLemmas.{writes_own}

-- a character and its UTF-8 in front
record Front (text : List ℕ) : Type 0 where
  char : ℕ
  rest : List ℕ
  is : text ≡ encode_utf8 char ++ rest
  scalar : IsScalar char

front : (text : List ℕ) → IsUtf8 text → 0 < length text → Front text
front text utf8 some = by utf8.0 utf8.1.0 utf8.1.1
  where
    by : (cs : List ℕ) → all_scalars cs ≡ true → encode_utf8_all cs ≡ text → Front text
    by [] scalars text_is = absurd (omega (arith, ap length text_is))
    by (c ∷ cs) scalars text_is = record {
      char = c;
      rest = encode_utf8_all cs;
      is = sym text_is;
      scalar = (and_parts _ _ scalars).0;
    }

-- the first character, which is beyond ASCII, with n bytes
pub record IsFirst (text : List ℕ) (c n : ℕ) : Type 0 where
  pub scalar : IsScalar c
  pub beyond : 0x80 ≤ c
  pub first : IsFirstUtf8Char text c n

-- by the first byte, which the length of the character decides, and those after it
pub record FoundBy (text : List ℕ) (a b d e : ℕ) : Type 0 where
  pub two : a < 0xE0 → IsFirst text (a % 32 * 64 + b % 64) 2
  pub three : 0xE0 ≤ a → a < 0xF0 → IsFirst text ((a % 16 * 64 + b % 64) * 64 + d % 64) 3
  pub four : 0xF0 ≤ a → IsFirst text (((a % 8 * 64 + b % 64) * 64 + d % 64) * 64 + e % 64) 4

not_short : (a b : ℕ) → 0xE0 ≤ a → a < 0xF8 → 0x80 ≤ b → b < 0xC0 → short_unit a b < 0x800 → ⊥
not_short a b from to second_from second_to below =
    let unit : short_unit a b ≡ (a * 0x40 + b + 0xCF80) % 0x1_0000 = grind (arith, nat_tests) in
    omega arith

module _ (text : List ℕ) (utf8 : IsUtf8 text) (front : Front text) where
  byte_at : {code : List ℕ} → encode_utf8 front.char ≡ code → (i : ℕ)
      → get_or text i 0 ≡ get_or (code ++ front.rest) i 0
  byte_at code_is i =
      ap (λ z. get_or z i 0) (front.is ∙ ap (λ z. z ++ front.rest) code_is)

  first_is : {code : List ℕ} → encode_utf8 front.char ≡ code
      → IsFirstUtf8Char text front.char (length code)
  first_is {code} code_is =
      let whole : text ≡ code ++ front.rest = front.is ∙ ap (λ z. z ++ front.rest) code_is in
      let after : drop (length code) text ≡ front.rest =
      ap (drop (length code)) whole ∙ drop-append_seam code front.rest in
      record {
        within = omega (arith, ap length whole, lengths);
        utf8 = subst IsUtf8 (sym after) (IsUtf8-past_char text front.rest front.char utf8 front.is);
        chars = chars_past_char text front.rest front.char utf8 front.is
            ∙ ap (λ z. front.char ∷ chars z) (sym after);
      }

  is_first_by : {code : List ℕ} → 0x80 ≤ front.char → encode_utf8 front.char ≡ code → (d : ℕ)
      → front.char ≡ d → IsFirst text d (length code)
  is_first_by {code} beyond code_is d same =
      rw (← same) (record { scalar = front.scalar; beyond = beyond; first = first_is code_is })

  found_by : Form front.char → {a b d e : ℕ} → get_or text 0 0 ≡ a → get_or text 1 0 ≡ b
      → get_or text 2 0 ≡ d → get_or text 3 0 ≡ e → 0x80 ≤ a → FoundBy text a b d e
  found_by (One low code) first second third fourth beyond =
      absurd (omega (arith, byte_at code 0))
  found_by (Two from below code) first second third fourth beyond =
      let lead = byte_at code 0 in
      record {
        two = λ _. is_first_by from code _ (omega (arith, lead, byte_at code 1));
        three = λ high _. absurd (omega (arith, lead));
        four = λ high. absurd (omega (arith, lead));
      }
  found_by (Three from below code) first second third fourth beyond =
      let lead = byte_at code 0 in
      record {
        two = λ low. absurd (omega (arith, lead));
        three = λ _ _. is_first_by (omega arith) code _
            (omega (arith, lead, byte_at code 1, byte_at code 2));
        four = λ high. absurd (omega (arith, lead));
      }
  found_by (Four from code) first second third fourth beyond =
      let lead = byte_at code 0 in
      let below = scalar_below front.char front.scalar in
      record {
        two = λ low. absurd (omega (arith, lead));
        three = λ _ low. absurd (omega (arith, lead));
        four = λ _. is_first_by (omega arith) code _
            (omega (arith, lead, byte_at code 1, byte_at code 2, byte_at code 3));
      }

  -- if it has one byte or two
  short_by : Form front.char → {a b : ℕ} → get_or text 0 0 ≡ a → get_or text 1 0 ≡ b
      → short_unit a b < 0x800 → IsFirstUtf8Char text (short_unit a b) (1 + lead_bit a)
  short_by (One low code) {a} {b} first second below =
      let lead = byte_at code 0 in
      let is_unit : front.char ≡ short_unit a b = grind (arith, nat_tests, lead) in
      let width : 1 ≡ 1 + lead_bit a = grind (arith, nat_tests, lead) in
      rw (← is_unit, ← width) (first_is code)
  short_by (Two from to code) {a} {b} first second below =
      let lead = byte_at code 0 in
      let trail = byte_at code 1 in
      let is_unit : front.char ≡ short_unit a b = grind (arith, nat_tests, lead, trail) in
      let width : 2 ≡ 1 + lead_bit a = grind (arith, nat_tests, lead) in
      rw (← is_unit, ← width) (first_is code)
  short_by (Three from to code) {a} {b} first second below =
      let trail = byte_at code 1 in
      absurd (not_short a b (omega (arith, byte_at code 0)) (omega (arith, byte_at code 0))
      (omega (arith, trail)) (omega (arith, trail)) below)
  short_by (Four from code) {a} {b} first second below =
      let trail = byte_at code 1 in
      let most = scalar_below front.char front.scalar in
      absurd (not_short a b (omega (arith, byte_at code 0)) (omega (arith, byte_at code 0))
      (omega (arith, trail)) (omega (arith, trail)) below)

-- at a place of a slice
module _ (src : List ℕ) (at : ℕ) (utf8 : IsUtf8 (drop at src)) (inside : at < length src) where
  front_at : Front (drop at src)
  front_at = front (drop at src) utf8 (omega (arith, lengths))

  at_place : get_or (drop at src) 0 0 ≡ get_or src at 0
  at_place = get_or-drop at src 0 0 ∙ ap (λ k. get_or src k 0) (omega arith)

  pub found_at : 0x80 ≤ get_or src at 0
      → FoundBy (drop at src) (get_or src at 0) (get_or src (at + 1) 0) (get_or src (at + 2) 0)
      (get_or src (at + 3) 0)
  found_at = found_by (drop at src) utf8 front_at (form_of front_at.char) at_place
      (get_or-drop at src 1 0) (get_or-drop at src 2 0) (get_or-drop at src 3 0)

  pub short_at : short_unit (get_or src at 0) (get_or src (at + 1) 0) < 0x800
      → IsFirstUtf8Char (drop at src) (short_unit (get_or src at 0) (get_or src (at + 1) 0))
      (1 + lead_bit (get_or src at 0))
  short_at = short_by (drop at src) utf8 front_at (form_of front_at.char) at_place
      (get_or-drop at src 1 0)

  -- its bytes are within the slice

  pub fourth_within : 0xF0 ≤ get_or src at 0 → at + 3 < length src
  fourth_within high = omega (arith, ((found_at (omega arith)).four high).first.within, lengths)

  pub third_within : 0xE0 ≤ get_or src at 0 → at + 2 < length src
  third_within high = elim (cases_lt (get_or src at 0) 0xF0) [
    | inl low ↦ omega (arith, ((found_at (omega arith)).three high low).first.within, lengths)
    | inr more ↦ omega (arith, fourth_within more)
  ]

  pub second_within : 0x80 ≤ get_or src at 0 → at + 1 < length src
  second_within beyond = elim (cases_lt (get_or src at 0) 0xE0) [
    | inl low ↦ omega (arith, ((found_at beyond).two low).first.within, lengths)
    | inr more ↦ omega (arith, third_within more)
  ]

-- ASCII in front

ascii_first : (bytes rest : List ℕ) → AreAscii bytes → IsUtf8 (bytes ++ rest)
    → IsUtf8 rest × (chars (bytes ++ rest) ≡ bytes ++ chars rest)
ascii_first [] rest own utf8 = (utf8, refl)
ascii_first (b ∷ bytes) rest own utf8 =
    let text = b ∷ (bytes ++ rest) in
    let is_front : text ≡ encode_utf8 b ++ (bytes ++ rest) =
    ap (λ x. x ++ (bytes ++ rest)) (sym (encode_ascii b (own 0 0 (omega arith)))) in
    let later = ascii_first bytes rest (λ k d inside. own (suc k) d (omega arith))
    (IsUtf8-past_char text (bytes ++ rest) b utf8 is_front) in
    (later.0, chars_past_char text (bytes ++ rest) b utf8 is_front ∙ ap (λ x. b ∷ x) later.1)

-- bytes that are characters by themselves are written
pub own_written : {Means : List ℕ → ℕ → Type 0} {text before after : List ℕ} {at n : ℕ}
    → IsUtf8 text → WritesThemselves Means text before after at n
    → WritesFront chars IsUtf8 Means text before after at n n
own_written {text = text} {n = n} utf8 own =
    let whole = take-append-drop n text in
    let begins = ascii_first (take n text) (drop n text)
    (λ k d inside. (own.ascii k d inside).0) (subst IsUtf8 (sym whole) utf8) in
    writes_own own begins.0 (ap chars (sym whole) ∙ begins.1)

-- whole characters in front are copied, where each is written as its UTF-8
pub writes_copied : {Means : List ℕ → ℕ → Type 0} {text before after : List ℕ} {at n : ℕ}
    → AreWrittenAsUtf8 Means → IsUtf8 text → IsCharBoundary text n
    → Put at n before (take n text) after
    → WritesFront chars IsUtf8 Means text before after at n n
writes_copied {text = text} {n = n} utf8 is_utf8 boundary put =
    let front = take n text in
    let front_is_utf8 = IsUtf8-take text n is_utf8 boundary in
    record {
      within = boundary.0;
      rest = IsUtf8-drop text n is_utf8 boundary;
      writes = maps_utf8 utf8 (chars front) (scalars-chars front front_is_utf8)
          (ap chars (sym (take-append-drop n text))
          ∙ chars-append front (drop n text) front_is_utf8)
          (sym (their_units (chars front) ∙ encodes-chars front front_is_utf8)) put;
    }
