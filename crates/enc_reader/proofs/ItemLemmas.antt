-- The characters and malformed sequences among sequences.
use Rattle.std.proofs.Common.{◌≡◌, ℕ, ◌+◌, Bool, true, false, List, [], ◌∷◌, ◌++◌, length, map, refl, ap, ◌∙◌, sym}
use Rattle.std.proofs.Common.{arith, append_assoc, length-append}
use Rattle.std.proofs.lemmas.List.{map-append}
use Rattle.std.specs.Prelude.{if◌then◌else◌}
use Rattle.std.proofs.lemmas.Bool.{or_parts}
use Rattle.enc_decoder.specs.Sequence.{Sequence, sequence_bytes, sequence_text, is_malformed, any_malformed}
use Rattle.enc_stream.specs.Faults.{faults_from}
use Rattle.enc_reader.specs.Items.{Item, items_from, items_of, character_item, malformed_item}
use Rattle.enc_reader.specs.Items.{fault_of, faults_among}

-- those of some sequences, and of those that follow
pub items-append : (at : ℕ) (ss ts : List Sequence) → items_from at (ss ++ ts)
    ≡ items_from at ss ++ items_from (at + length (sequence_bytes ss)) ts
items-append at [] ts =
    ap (λ n. items_from n ts) (let at_start : at ≡ at + 0 = omega arith in at_start)
items-append at (s ∷ ss) ts =
    let offset : at + length s.bytes + length (sequence_bytes ss)
    ≡ at + length (s.bytes ++ sequence_bytes ss) =
    omega (arith, length-append s.bytes (sequence_bytes ss)) in
    ap (λ x. items_of at s ++ x)
    (items-append (at + length s.bytes) ss ts
    ∙ ap (λ n. items_from (at + length s.bytes) ss ++ items_from n ts) offset)
    ∙ sym (append_assoc (items_of at s) (items_from (at + length s.bytes) ss)
    (items_from (at + length (s.bytes ++ sequence_bytes ss)) ts))

-- Sequences that are not malformed have the characters of their text.
pub items_text : (at : ℕ) (ss : List Sequence) → any_malformed ss ≡ false
    → items_from at ss ≡ map character_item (sequence_text ss)
items_text at [] valid = refl
items_text at (s ∷ ss) valid =
    let parts = or_parts (is_malformed s.kind) (any_malformed ss) valid in
    rw parts.0
    (ap (λ x. map character_item s.text ++ x) (items_text (at + length s.bytes) ss parts.1)
    ∙ sym (map-append character_item s.text (sequence_text ss)))

-- a malformed sequence after them
pub items_last : (at : ℕ) (ss : List Sequence) (s : Sequence) → any_malformed ss ≡ false
    → is_malformed s.kind ≡ true
    → items_from at (ss ++ s ∷ []) ≡ map character_item (sequence_text ss)
    ++ malformed_item (at + length (sequence_bytes ss)) s.bytes ∷ []
items_last at ss s valid malformed =
    items-append at ss (s ∷ [])
    ∙ ap (λ x. x ++ items_from (at + length (sequence_bytes ss)) (s ∷ [])) (items_text at ss valid)
    ∙ rw malformed refl

-- the faults among them

pub faults_among-append : (xs ys : List Item)
    → faults_among (xs ++ ys) ≡ faults_among xs ++ faults_among ys
faults_among-append [] ys = refl
faults_among-append (x ∷ xs) ys =
    ap (λ l. fault_of x.malformed ++ l) (faults_among-append xs ys)
    ∙ sym (append_assoc (fault_of x.malformed) (faults_among xs) (faults_among ys))

pub faults_among-text : (text : List ℕ) → faults_among (map character_item text) ≡ []
faults_among-text [] = refl
faults_among-text (c ∷ text) = faults_among-text text

faults_of : (at : ℕ) (s : Sequence) (rest : List (ℕ × ℕ))
    → (if is_malformed s.kind then (at, length s.bytes) ∷ rest else rest)
    ≡ faults_among (items_of at s) ++ rest
faults_of at s rest = by_kind (is_malformed s.kind)
  where
    by_kind : (b : Bool) → (if b then (at, length s.bytes) ∷ rest else rest)
        ≡ faults_among (if b then malformed_item at s.bytes ∷ [] else map character_item s.text)
        ++ rest
    by_kind true = refl
    by_kind false = rw (faults_among-text s.text) refl

pub faults_are : (at : ℕ) (ss : List Sequence)
    → faults_from at ss ≡ faults_among (items_from at ss)
faults_are at [] = refl
faults_are at (s ∷ ss) =
    faults_of at s (faults_from (at + length s.bytes) ss)
    ∙ ap (λ l. faults_among (items_of at s) ++ l) (faults_are (at + length s.bytes) ss)
    ∙ sym (faults_among-append (items_of at s) (items_from (at + length s.bytes) ss))
