-- Places in a text, counted in characters.
use Rattle.std.proofs.Common.{◌≡◌, ◌↔◌, ℕ, ◌+◌, ◌-◌, ◌<◌, ◌≤◌, Bool, true, false, List, [], ◌∷◌, ◌++◌, chars}
use Rattle.std.proofs.Common.{length, take, drop, refl, ap, ◌∙◌, sym, arith, subst, append_assoc, append-nil, ◌⊎◌}
use Rattle.std.proofs.Common.{inl, inr, length-append, length-drop}
use Rattle.std.proofs.lemmas.List.{append_cancel_right, take-append-drop, drop-drop}
use Rattle.std.proofs.Math.ListN.{drop_of_length-le}
use Rattle.std.proofs.Math.Seq.{drop-append_seam}
use Rattle.std.specs.Char.Escape.{encode_utf16}
use Rattle.std.specs.Char.Utf16.{utf16_lossy_chars}
use Rattle.enc_utf8.proofs.UnitsLemmas.{utf_16_read_back}
use Rattle.enc_encoder.proofs.EnoughLemmas.{some_of_utf_8, some_of_utf_16}
use Rattle.std.proofs.lemmas.Str.{chars-nil, chars-append, chars_past_char, IsUtf8-past_char}
use Rattle.std.proofs.lemmas.Str.{scalars-chars, encodes-chars, IsUtf8-take, IsUtf8-drop, IsCharBoundary-at_seam}
use Rattle.std.specs.Char.{encode_utf8}
use Rattle.std.specs.Str.{IsUtf8, IsCharBoundary, encode_utf8_all}
use Rattle.enc_utf8.specs.Text.{units_of_text}
use Rattle.encoding_rs.specs.Run.{units_of_call}

no_chars : (text : List ℕ) → length text ≡ 0 → chars text ≡ []
no_chars [] none = chars-nil
no_chars (b ∷ text) none = cc

-- the rest of a text after n characters
pub record IsAfter (text rest : List ℕ) (count : ℕ) : Type 0 where
  pub front : List ℕ
  pub parts : text ≡ front ++ rest
  pub few : count ≤ length front
  pub utf8 : IsUtf8 rest
  pub chars : chars rest ≡ drop count (chars text)

pub begin : (text : List ℕ) → IsUtf8 text → IsAfter text text 0
begin text utf8 =
    record { front = []; parts = refl; few = omega arith; utf8 = utf8; chars = refl }

module _ {text rest : List ℕ} {count : ℕ} (follows : IsAfter text rest count) where
  pub within : count + length rest ≤ length text
  within = omega (arith, follows.few, ap length follows.parts, length-append follows.front rest)

  place : length follows.front ≡ length text - length rest
  place = omega (arith, ap length follows.parts, length-append follows.front rest)

  pub boundary : IsCharBoundary text (length text - length rest)
  boundary = subst (IsCharBoundary text) place
      (IsCharBoundary-at_seam text follows.front rest follows.parts follows.utf8)

  pub is_end : rest ≡ drop (length text - length rest) text
  is_end = sym (ap (drop (length follows.front)) follows.parts
      ∙ drop-append_seam follows.front rest)
      ∙ ap (λ n. drop n text) place

  -- n characters, and those after them
  pub front_chars : (n : ℕ) → IsUtf8 text → chars rest ≡ drop n (chars text)
      → chars (take (length text - length rest) text) ≡ take n (chars text)
  front_chars n utf8 after =
      let at = length text - length rest in
      append_cancel_right (chars (take at text)) (take n (chars text)) (drop n (chars text))
      (ap (λ t. chars (take at text) ++ t) (sym after ∙ ap chars is_end)
      ∙ sym (chars-append (take at text) (drop at text) (IsUtf8-take text at utf8 boundary))
      ∙ ap chars (take-append-drop at text) ∙ sym (take-append-drop n (chars text)))

  -- one character more
  pub one_more : (c : ℕ) {others : List ℕ} → rest ≡ encode_utf8 c ++ others
      → IsAfter text others (count + 1)
  one_more c {others} rest_is = record {
    front = follows.front ++ encode_utf8 c;
    parts = follows.parts ∙ ap (λ t. follows.front ++ t) rest_is
        ∙ sym (append_assoc follows.front (encode_utf8 c) others);
    few = omega (arith, follows.few, length-append follows.front (encode_utf8 c), some_of_utf_8 c);
    utf8 = IsUtf8-past_char rest others c follows.utf8 rest_is;
    chars = ap (drop 1)
        (sym (chars_past_char rest others c follows.utf8 rest_is) ∙ follows.chars)
        ∙ drop-drop 1 count (chars text);
  }

-- The rest of a text after n characters, or nothing if it has fewer.
pub record IsCut (text rest : List ℕ) (count : ℕ) : Type 0 where
  pub reached : ℕ
  pub follows : IsAfter text rest reached
  pub chars : chars rest ≡ drop count (chars text)

pub cut_at : {text rest found : List ℕ} {reached count : ℕ} → IsAfter text rest reached
    → found ≡ rest → reached ≤ count → (count ≤ reached) ⊎ (length rest ≡ 0)
    → IsCut text found count
cut_at {text} {rest} {reached = reached} {count} follows found_is within ends =
    rw found_is (record {
      reached = reached;
      follows = follows;
      chars = elim ends [
        | inl all ↦ (let same : reached ≡ count = omega arith in
            follows.chars ∙ ap (λ n. drop n (chars text)) same)
        | inr none ↦ (let no_more = no_chars rest none in
            no_more ∙ sym (drop_of_length-le (chars text) (omega (
              arith,
              within,
              length-drop reached (chars text),
              ap length (sym follows.chars ∙ no_more),
            ))))
      ];
    })

-- Nothing follows n characters exactly if there are no more.
pub none_after : (text after : List ℕ) (place count : ℕ) → IsUtf8 text → IsCharBoundary text place
    → after ≡ drop place text → chars after ≡ drop count (chars text)
    → (length after ≡ 0) ↔ (length (chars text) ≤ count)
none_after text after place count utf8 between after_is chars_are = (
  (λ none. omega (
    arith,
    length-drop count (chars text),
    ap length (sym chars_are ∙ no_chars after none),
  )),
  (λ few. ap length
      (sym (encodes-chars after (subst IsUtf8 (sym after_is) (IsUtf8-drop text place utf8 between)))
      ∙ ap encode_utf8_all (chars_are ∙ drop_of_length-le (chars text) few))),
)

-- Characters that have n code units.

pub some_units : (utf16 : Bool) (c : ℕ) → 1 ≤ length (units_of_call utf16 c)
some_units true = some_of_utf_16
some_units false = some_of_utf_8

module _ (units_of : ℕ → List ℕ) where
  -- the characters left of some in front, where `count` are taken and `left` code units left
  pub record AreLeft (front back rest : List ℕ) (count left : ℕ) : Type 0 where
    pub some : List ℕ
    pub characters : chars rest ≡ some ++ back
    pub units : left ≡ length (units_of_text units_of some)
    pub number : count + length some ≡ length front

  -- those of any characters in front that have n code units
  abbrev pub Leaves : List ℕ → List ℕ → ℕ → ℕ → ℕ → Type 0
  Leaves text rest units count left = (front back : List ℕ) → chars text ≡ front ++ back
      → units ≡ length (units_of_text units_of front) → AreLeft front back rest count left

  pub none_taken : (text : List ℕ) (units : ℕ) → Leaves text text units 0 units
  none_taken text units front back characters units_are =
      record { some = front; characters = characters; units = units_are; number = omega arith }

  pub takes_one : {front back rest others : List ℕ} {count left : ℕ} (c width : ℕ) → IsUtf8 rest
      → rest ≡ encode_utf8 c ++ others → width ≡ length (units_of c) → 0 < left
      → AreLeft front back rest count left
      → AreLeft front back others (count + 1) (left - width)
  takes_one {front} {back} {rest} {others} {count} {left} c width utf8 rest_is width_is more now =
      of_characters now.some (sym (chars_past_char rest others c utf8 rest_is) ∙ now.characters)
      now.units now.number
    where
      of_characters : (some : List ℕ) → c ∷ chars others ≡ some ++ back
          → left ≡ length (units_of_text units_of some) → count + length some ≡ length front
          → AreLeft front back others (count + 1) (left - width)
      of_characters [] characters units number = absurd (omega (arith, more, units))
      of_characters (d ∷ some) characters units number =
          let same : c ≡ d = cc in
          record {
            some = some;
            characters = cc;
            units = omega (
              arith,
              units,
              length-append (units_of d) (units_of_text units_of some),
              ap (λ x. length (units_of x)) same,
            );
            number = omega (arith, number);
          }

  none_left : ((c : ℕ) → 1 ≤ length (units_of c)) → (t : List ℕ)
      → length (units_of_text units_of t) ≡ 0 → length t ≡ 0
  none_left some [] none = refl
  none_left some (c ∷ t) none =
      absurd (omega (arith, some c, length-append (units_of c) (units_of_text units_of t), none))

  -- if no code unit is left, the n characters are all of them
  pub all_taken : ((c : ℕ) → 1 ≤ length (units_of c)) → {front back rest : List ℕ}
      {count left : ℕ} → AreLeft front back rest count left → left ≤ 0 → count ≡ length front
  all_taken some now none =
      let units : length (units_of_text units_of now.some) ≡ 0 = omega (arith, now.units, none) in
      omega (arith, now.number, none_left some now.some units)

  -- if no character is left, they are all too
  pub at_end_taken : {front back rest : List ℕ} {count left : ℕ} → length rest ≡ 0
      → AreLeft front back rest count left → count ≡ length front
  at_end_taken {back = back} {rest} none now = omega (
    arith,
    ap length (sym (no_chars rest none) ∙ now.characters),
    length-append now.some back,
  )

-- A text in UTF-16.

-- the code units of the characters before the rest
pub record Converted (text rest units : List ℕ) : Type 0 where
  pub utf8 : IsUtf8 rest
  pub are : units_of_text encode_utf16 (chars text)
      ≡ units ++ units_of_text encode_utf16 (chars rest)

pub none_converted : (text : List ℕ) → IsUtf8 text → Converted text text []
none_converted text utf8 = record { utf8 = utf8; are = refl }

pub converts_one : {text rest others units after : List ℕ} (c : ℕ) → Converted text rest units
    → rest ≡ encode_utf8 c ++ others → after ≡ units ++ encode_utf16 c → Converted text others after
converts_one {rest = rest} {others} {units} c converted rest_is after_is = record {
  utf8 = IsUtf8-past_char rest others c converted.utf8 rest_is;
  are = converted.are
      ∙ ap (λ t. units ++ units_of_text encode_utf16 t)
      (chars_past_char rest others c converted.utf8 rest_is)
      ∙ sym (append_assoc units (encode_utf16 c) (units_of_text encode_utf16 (chars others)))
      ∙ ap (λ x. x ++ units_of_text encode_utf16 (chars others)) (sym after_is);
}

-- all of them are the text's
pub all_converted : {text rest units : List ℕ} → IsUtf8 text → Converted text rest units
    → length rest ≡ 0 → utf16_lossy_chars units ≡ chars text
all_converted {text} {rest} {units} utf8 converted none =
    ap utf16_lossy_chars (sym (converted.are
    ∙ ap (λ t. units ++ units_of_text encode_utf16 t) (no_chars rest none) ∙ append-nil units))
    ∙ utf_16_read_back (chars text) (scalars-chars text utf8)
