-- Places, texts and malformed sequences of items.
use Rattle.std.proofs.Common.{◌≡◌, ◌≢◌, ℕ, ◌+◌, ◌<◌, nat_eq, false, List, [], ◌∷◌, ◌++◌, length}
use Rattle.std.proofs.Common.{take, map, chars, All, None, refl, ap, ◌∙◌, sym, subst, arith}
use Rattle.std.proofs.Common.{append_assoc, get_or, get_or-append-add, length-append, take-append-drop, drop}
use Rattle.std.proofs.Common.{zero, suc, eqb-true, inl, inr}
use Rattle.std.proofs.lemmas.Str.Ascii.{IsAscii-cons, IsAscii-nil}
use Rattle.enc_decoder.proofs.FirstSequenceLemmas.{true_or_false}
use Rattle.std.proofs.lemmas.List.{map-append}
use Rattle.std.proofs.lemmas.List.Elements.{All-nil, All-cons, All-head, All-tail}
use Rattle.std.proofs.lemmas.Str.{encodes-chars, chars-append, chars-IsAscii, encode_ascii}
use Rattle.std.proofs.lemmas.Str.{IsUtf8-take, IsCharBoundary-before_ascii}
use Rattle.std.specs.Char.{encode_utf8}
use Rattle.std.specs.Str.{IsUtf8}
use Rattle.enc_utf8.specs.Text.{units_of_text}
use Rattle.enc_utf8.proofs.UnitsLemmas.{their_units}
use Rattle.enc_reader.specs.declared.malformed_policy.MalformedPolicy.{MalformedPolicy}
use Rattle.enc_reader.specs.declared.position.Position.{Position}
use Rattle.enc_reader.specs.Items.{Item, character_item}
use Rattle.enc_reader.specs.Places.{position_after, after_character, start_of_next_line, placed, placed_at}
use Rattle.enc_reader.specs.Policies.{text_by, text_of_item}
use Rattle.enc_reader.specs.Lines.{IsNoFeed, IsLine}

-- some items and then others

pub position_after-append : (p : Position) (xs ys : List Item)
    → position_after p (xs ++ ys) ≡ position_after (position_after p xs) ys
position_after-append p [] ys = refl
position_after-append p (x ∷ xs) ys = position_after-append (after_character p x.char) xs ys

pub placed-append : (p : Position) (xs ys : List Item)
    → placed p (xs ++ ys) ≡ placed p xs ++ placed (position_after p xs) ys
placed-append p [] ys = refl
placed-append p (x ∷ xs) ys =
    ap (λ l. placed_at p x.malformed ++ l) (placed-append (after_character p x.char) xs ys)
    ∙ sym (append_assoc (placed_at p x.malformed) (placed (after_character p x.char) xs)
    (placed (position_after (after_character p x.char) xs) ys))

pub text_by-append : (policy : MalformedPolicy) (xs ys : List Item)
    → text_by policy (xs ++ ys) ≡ text_by policy xs ++ text_by policy ys
text_by-append policy [] ys = refl
text_by-append policy (x ∷ xs) ys =
    ap (λ l. text_of_item policy x.char x.malformed ++ l) (text_by-append policy xs ys)
    ∙ sym (append_assoc (text_of_item policy x.char x.malformed) (text_by policy xs)
    (text_by policy ys))

-- characters

pub placed-text : (p : Position) (cs : List ℕ) → placed p (map character_item cs) ≡ []
placed-text p [] = refl
placed-text p (c ∷ cs) = placed-text (after_character p c) cs

pub text_by-text : (policy : MalformedPolicy) (cs : List ℕ)
    → text_by policy (map character_item cs) ≡ cs
text_by-text policy [] = refl
text_by-text policy (c ∷ cs) = ap (λ l. c ∷ l) (text_by-text policy cs)

pub none-text : (cs : List ℕ) → All (λ item. item.malformed ≡ None) (map character_item cs)
none-text [] = All-nil (λ item. item.malformed ≡ None)
none-text (c ∷ cs) =
    All-cons (λ item. item.malformed ≡ None) (character_item c) (map character_item cs) refl
    (none-text cs)

-- the bytes of a text are those of its characters
pub units-chars : (text : List ℕ) → IsUtf8 text
    → units_of_text encode_utf8 (chars text) ≡ text
units-chars text utf_8 = their_units (chars text) ∙ encodes-chars text utf_8

-- line feeds

no_feed_before : (xs ys : List ℕ) → All (λ b. b ≢ 10) (xs ++ ys) → All (λ b. b ≢ 10) ys
no_feed_before xs ys none k d within =
    let inside : length xs + k < length (xs ++ ys) = omega (arith, within, length-append xs ys) in
    subst (λ b. b ≢ 10) (get_or-append-add xs ys k d) (none (length xs + k) d inside)

no_feed_among : (cs : List ℕ) → All (λ b. b ≢ 10) (units_of_text encode_utf8 cs)
    → All IsNoFeed (map character_item cs)
no_feed_among [] none = All-nil IsNoFeed
no_feed_among (c ∷ cs) none =
    let others = units_of_text encode_utf8 cs in
    let is_no_feed : c ≢ 10 = λ feed.
    let ascii : c < 128 = omega (arith, feed) in
    let first : All (λ b. b ≢ 10) (c ∷ others) =
    subst (λ l. All (λ b. b ≢ 10) (l ++ others)) (encode_ascii c ascii) none in
    All-head (λ b. b ≢ 10) c others first feed in
    All-cons IsNoFeed (character_item c) (map character_item cs) is_no_feed
    (no_feed_among cs (no_feed_before (encode_utf8 c) others none))

pub no_feed-text : (text : List ℕ) → IsUtf8 text → All (λ b. b ≢ 10) text
    → All IsNoFeed (map character_item (chars text))
no_feed-text text utf_8 none =
    no_feed_among (chars text)
    (subst (All (λ b. b ≢ 10)) (sym (units-chars text utf_8)) none)

chars-feed : chars (10 ∷ []) ≡ 10 ∷ []
chars-feed = chars-IsAscii (10 ∷ []) (IsAscii-cons 10 [] (omega arith) IsAscii-nil)

-- Items without a line feed stay in their line.
same_line : (p : Position) (items : List Item) → All IsNoFeed items
    → start_of_next_line (position_after p items) ≡ start_of_next_line p
same_line p [] none = refl
same_line p (item ∷ items) none =
    let other : nat_eq item.char 10 ≡ false = elim (true_or_false (nat_eq item.char 10)) [
      | inl feed ↦ absurd (All-head IsNoFeed item items none (eqb-true item.char 10 feed))
      | inr other ↦ other
    ] in
    same_line (after_character p item.char) items (All-tail IsNoFeed item items none)
    ∙ rw other refl

-- the last element of a list
one_left : (xs : List ℕ) (n : ℕ) → length xs ≡ n + 1 → drop n xs ≡ get_or xs n 0 ∷ []
one_left [] n long = absurd (omega (arith, long))
one_left (x ∷ []) zero long = refl
one_left (x ∷ y ∷ xs) zero long = absurd (omega (arith, long))
one_left (x ∷ xs) (suc n) long = one_left xs n (omega (arith, long))

-- a text that ends with its only line feed
module _ (text : List ℕ) (len : ℕ) (utf_8 : IsUtf8 text) (long : length text ≡ len + 1)
    (ends : get_or text len 0 ≡ 10) (none : All (λ b. b ≢ 10) (take len text)) where
  abbrev pub before : List ℕ
  before = take len text

  before_utf_8 : IsUtf8 before
  before_utf_8 = IsUtf8-take text len utf_8
      (IsCharBoundary-before_ascii text len (omega (arith, long)) (omega (arith, ends)))

  split : text ≡ before ++ 10 ∷ []
  split = sym (take-append-drop len text)
      ∙ ap (λ l. before ++ l) (one_left text len long ∙ ap (λ b. b ∷ []) ends)

  pub items-line : map character_item (chars text)
      ≡ map character_item (chars before) ++ character_item 10 ∷ []
  items-line =
      ap (λ l. map character_item (chars l)) split
      ∙ ap (map character_item) (chars-append before (10 ∷ []) before_utf_8
      ∙ ap (λ l. chars before ++ l) chars-feed)
      ∙ map-append character_item (chars before) (10 ∷ [])

  pub IsLine-text : IsLine (map character_item (chars text))
  IsLine-text = record {
    before = map character_item (chars before);
    feed = character_item 10;
    parts = items-line;
    no_feed = no_feed-text before before_utf_8 none;
    is_feed = refl;
  }

  pub position-line : (p : Position)
      → position_after p (map character_item (chars text)) ≡ start_of_next_line p
  position-line p =
      ap (position_after p) items-line
      ∙ position_after-append p (map character_item (chars before)) (character_item 10 ∷ [])
      ∙ same_line p (map character_item (chars before)) (no_feed-text before before_utf_8 none)
