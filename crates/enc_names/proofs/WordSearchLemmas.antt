-- A search by halves finds the place of a word, where words ascend.
use Rattle.std.proofs.Common.{◌≡◌, ◌≢◌, ℕ, zero, suc, ◌+◌, ◌<◌, ◌≤◌, true, false, List, [], ◌∷◌, length, get_or}
use Rattle.std.proofs.Common.{Some, None, refl, ap, ◌∙◌, sym, arith, inl, inr}
use Rattle.std.specs.Borrow.{Bor}
use Rattle.std.specs.Str.{bytes_eq}
use Rattle.std.proofs.lemmas.Bool.{cases_lt, false_from_ne_true}
use Rattle.std.proofs.lemmas.Slice.Eq.{bytes_eq-Decides}
use Rattle.enc_names.specs.Order.{word_number, are_ascending_words}
use Rattle.enc_names.specs.Place.{word_place, texts_of}
use Rattle.enc_names.proofs.OrderLemmas.{earlier_before, no_later}

-- words below low come before the word, and words from high on after it
pub record Halving (words : List (List ℕ)) (word : List ℕ) (low high : ℕ) : Type 0 where
  pub order : low ≤ high
  pub range : high ≤ length words
  pub before : (i : ℕ) → i < low → word_number (get_or words i []) < word_number word
  pub after : (i : ℕ) → high ≤ i → i < length words
      → word_number word < word_number (get_or words i [])

-- other words are found different
pub differs : (label word : List ℕ) → label ≢ word → bytes_eq label word ≡ false
differs label word other =
    false_from_ne_true (bytes_eq label word)
    (λ equal. other ((bytes_eq-Decides label word).0 equal))

found : (words : List (List ℕ)) (word : List ℕ) (i : ℕ) → i < length words
    → ((j : ℕ) → j < i → get_or words j [] ≢ word)
    → get_or words i [] ≡ word → word_place words word ≡ Some i
found [] word i within differ is_word = absurd (omega arith)
found (one ∷ words) word zero within differ is_word =
    rw ((bytes_eq-Decides one word).1 is_word) refl
found (one ∷ words) word (suc i) within differ is_word =
    rw (
      differs one word (differ 0 (omega arith)),
      found words word i (omega arith) (λ j less. differ (suc j) (omega arith)) is_word,
    ) refl

pub missing : (words : List (List ℕ)) (word : List ℕ)
    → ((j : ℕ) → j < length words → get_or words j [] ≢ word) → word_place words word ≡ None
missing [] word differ = refl
missing (one ∷ words) word differ =
    rw (
      differs one word (differ 0 (omega arith)),
      missing words word (λ j less. differ (suc j) (omega arith)),
    ) refl

-- the halves, at a word in the middle
module _ {words : List (List ℕ)} (ascend : are_ascending_words words ≡ true) {word : List ℕ}
    {low high : ℕ} (middle : ℕ) (halving : Halving words word low high) (from : low ≤ middle)
    (to : middle < high) where
  here : middle < length words
  here = let range = halving.range in omega arith

  pub right : word_number (get_or words middle []) < word_number word
      → Halving words word (middle + 1) high
  right less = record {
    order = omega arith;
    range = halving.range;
    before = λ i k.
        let no_more = no_later words ascend i middle (omega arith) here in omega arith;
    after = halving.after;
  }

  pub left : word_number word < word_number (get_or words middle [])
      → Halving words word low middle
  left less = record {
    order = from;
    range = (let range = halving.range in omega arith);
    before = halving.before;
    after = λ i k within. let no_less = no_later words ascend middle i k within in omega arith;
  }

  pub hit : get_or words middle [] ≡ word → word_place words word ≡ Some middle
  hit is_word =
      found words word middle here
      (λ j less same. let before = earlier_before words ascend j middle less here in
      let same_number = ap word_number (same ∙ sym is_word) in
      absurd (omega arith)) is_word

pub nothing : {words : List (List ℕ)} {word : List ℕ} {low high : ℕ} → high ≤ low
    → Halving words word low high
    → word_place words word ≡ None
nothing {words} {word} {low} none halving =
    missing words word (λ j within same. let same_number = ap word_number same in
    elim (cases_lt j low) [
      | inl less ↦ (let is_before = halving.before j less in absurd (omega arith))
      | inr more ↦ (let is_after = halving.after j (omega arith) within in absurd (omega arith))
    ])

-- the words of a table of texts
pub texts_len : (texts : List (Bor (List ℕ))) → length (texts_of texts) ≡ length texts
texts_len [] = refl
texts_len (text ∷ texts) = ap suc (texts_len texts)

text_at : (texts : List (Bor (List ℕ))) (i : ℕ) (d : Bor (List ℕ)) → i < length texts
    → (get_or texts i d).now ≡ get_or (texts_of texts) i []
text_at [] i d within = absurd (omega arith)
text_at (text ∷ texts) zero d within = refl
text_at (text ∷ texts) (suc i) d within = text_at texts i d (omega arith)

-- the bytes of one of them
pub text_is : (texts : List (Bor (List ℕ))) (i : ℕ) (d : Bor (List ℕ)) {bytes : List ℕ}
    → i < length texts → bytes ≡ (get_or texts i d).now → bytes ≡ get_or (texts_of texts) i []
text_is texts i d within is = is ∙ text_at texts i d within

pub start : (texts : List (Bor (List ℕ))) (word : List ℕ)
    → Halving (texts_of texts) word 0 (length texts)
start texts word = record {
  order = omega arith;
  range = (let as_many = texts_len texts in omega arith);
  before = λ i k. absurd (omega arith);
  after = λ i k l. absurd (let as_many = texts_len texts in omega arith);
}
