-- What holds of each sequence of a rule.
use Rattle.std.proofs.Common.{◌≡◌, ℕ, ◌<◌, ◌≤◌, zero, suc, Bool, true, false, cond, nat_lt, List, [], ◌∷◌, ◌++◌, length}
use Rattle.std.proofs.Common.{refl, ap, ◌∙◌, ◌||◌, sym, arith, subst}
use Rattle.std.proofs.lemmas.Bool.{false_from_ne_true}
use Rattle.std.proofs.lemmas.List.{length-append, nil_from_length}
use Rattle.std.proofs.lemmas.Str.{length-encode, len_utf8_bounds}
use Rattle.std.specs.Char.{encode_utf8}
use Rattle.std.specs.Char.Escape.{encode_utf16}
use Rattle.enc_decoder.specs.Sequence.{Sequence, is_malformed, any_malformed, sequence_text}
use Rattle.enc_decoder.specs.Segmentation.{Rule, head_sequence, sequences_after, sequences_of}
use Rattle.enc_decoder.specs.RuleLaws.{HasTexts, IsSmallText, HasSmallTexts, ReplacesMalformed}

record IsOfRule (rule : Rule) (s : Sequence) : Type 0 where
  set : ℕ
  first : ℕ
  following : List ℕ
  is_head : s ≡ head_sequence (rule set first following) first following

abbrev AreOfRule : Rule → List Sequence → Type 0
AreOfRule rule [] = Unit {0}
AreOfRule rule (s ∷ ss) = IsOfRule rule s × AreOfRule rule ss

rest_of_rule : (rule : Rule) (set k : ℕ) (z : List ℕ)
    → AreOfRule rule (sequences_after rule set k z)
unfolding sequences_after
rest_of_rule rule set k [] = tt
rest_of_rule rule set zero (b ∷ z) = (
  record { set = set; first = b; following = z; is_head = refl },
  rest_of_rule rule (rule set b z).set (rule set b z).more z,
)
rest_of_rule rule set (suc k) (b ∷ z) = rest_of_rule rule set k z

one_of : (rule : Rule) (done : List Sequence) (s : Sequence) (rest : List Sequence)
    → AreOfRule rule (done ++ s ∷ rest) → IsOfRule rule s
one_of rule [] s rest all = all.0
one_of rule (t ∷ done) s rest all = one_of rule done s rest all.1

is_of_rule : (rule : Rule) (set : ℕ) (z : List ℕ) (done : List Sequence) (s : Sequence)
    (rest : List Sequence)
    → sequences_of rule set z ≡ done ++ s ∷ rest → IsOfRule rule s
is_of_rule rule set z done s rest whole =
    one_of rule done s rest (subst (AreOfRule rule) whole (rest_of_rule rule set 0 z))

no_text : (rule : Rule) → HasTexts rule → (s : Sequence) (ss : List Sequence) → IsOfRule rule s
    → sequence_text (s ∷ ss) ≡ [] → ⊥
no_text rule has s ss of_rule no_text_first =
    has of_rule.set of_rule.first of_rule.following
    (nil_from_length (rule of_rule.set of_rule.first of_rule.following).text (omega (
      arith,
      ap length no_text_first,
      length-append s.text (sequence_text ss),
      ap (λ (t : Sequence). length t.text) of_rule.is_head,
    )))

-- a sequence has a byte
pub has_bytes : (rule : Rule) (set : ℕ) (z : List ℕ) (done : List Sequence) (s : Sequence)
    (rest : List Sequence) → sequences_of rule set z ≡ done ++ s ∷ rest → 0 < length s.bytes
has_bytes rule set z done s rest whole =
    let of_rule = is_of_rule rule set z done s rest whole in
    omega (arith, ap (λ (t : Sequence). length t.bytes) of_rule.is_head)

-- where each has a text, none is done without one
pub none_without_text : (rule : Rule) → HasTexts rule
    → (set : ℕ) (z : List ℕ) (done rest : List Sequence) → sequences_of rule set z ≡ done ++ rest
    → sequence_text done ≡ [] → done ≡ []
none_without_text rule has set z [] rest whole is_empty = refl
none_without_text rule has set z (s ∷ done) rest whole is_empty =
    absurd (no_text rule has s done (is_of_rule rule set z [] s (done ++ rest) whole) is_empty)

no_fault : (rule : Rule) → ReplacesMalformed rule → (s : Sequence) (ss : List Sequence)
    → IsOfRule rule s → sequence_text (s ∷ ss) ≡ [] → is_malformed s.kind ≡ true → ⊥
no_fault rule replaces s ss of_rule no_text_first malformed =
    let is_head = of_rule.is_head in
    let fffd = replaces of_rule.set of_rule.first of_rule.following
    (ap (λ (t : Sequence). is_malformed t.kind) (sym is_head) ∙ malformed) in
    absurd (omega (
      arith,
      ap length no_text_first,
      length-append s.text (sequence_text ss),
      ap length (ap (λ (t : Sequence). t.text) is_head ∙ fffd),
    ))

none_malformed_of : (rule : Rule) → ReplacesMalformed rule → (done rest : List Sequence)
    → AreOfRule rule (done ++ rest) → sequence_text done ≡ [] → any_malformed done ≡ false
none_malformed_of rule replaces [] rest all no_text = refl
none_malformed_of rule replaces (s ∷ done) rest all no_text =
    let no_text_after : sequence_text done ≡ [] = nil_from_length (sequence_text done) (omega (
      arith,
      ap length no_text,
      length-append s.text (sequence_text done),
    )) in
    ap (λ m. m || any_malformed done)
    (false_from_ne_true _ (no_fault rule replaces s done all.0 no_text))
    ∙ none_malformed_of rule replaces done rest all.1 no_text_after

-- where malformed sequences have a text, none of those done without one is malformed
pub none_malformed : (rule : Rule) → ReplacesMalformed rule
    → (set : ℕ) (z : List ℕ) (done rest : List Sequence) → sequences_of rule set z ≡ done ++ rest
    → sequence_text done ≡ [] → any_malformed done ≡ false
none_malformed rule replaces set z done rest whole no_text =
    none_malformed_of rule replaces done rest
    (subst (AreOfRule rule) whole (rest_of_rule rule set 0 z)) no_text

-- where each has a small text, so has this one
pub small_text : (rule : Rule) → HasSmallTexts rule
    → (set : ℕ) (z : List ℕ) (done : List Sequence) (s : Sequence) (rest : List Sequence)
    → sequences_of rule set z ≡ done ++ s ∷ rest
    → IsSmallText s.text
small_text rule small set z done s rest whole =
    let of_rule = is_of_rule rule set z done s rest whole in
    subst (λ (t : Sequence). IsSmallText t.text) (sym of_rule.is_head)
    (small of_rule.set of_rule.first of_rule.following)

units_bounds : (c : ℕ) → (1 ≤ length (encode_utf8 c)) × (length (encode_utf8 c) ≤ 4)
units_bounds c = rw length-encode (len_utf8_bounds c)

pub utf_16_bounds : (c : ℕ) → (1 ≤ length (encode_utf16 c)) × (length (encode_utf16 c) ≤ 2)
utf_16_bounds c = by_plane _ _ _ (nat_lt c 0x1_0000)
  where
    by_plane : (a b d : ℕ) (t : Bool) → (1 ≤ length (cond t (a ∷ []) (b ∷ d ∷ [])))
        × (length (cond t (a ∷ []) (b ∷ d ∷ [])) ≤ 2)
    by_plane a b d true = (omega arith, omega arith)
    by_plane a b d false = (omega arith, omega arith)

-- one character is a small text, and so is none
pub one_small : (c : ℕ) → IsSmallText (c ∷ [])
one_small c = record {
  utf_8 = omega (arith, (units_bounds c).0, (units_bounds c).1, length-append (encode_utf8 c) []);
  utf_16 = omega (arith, (utf_16_bounds c).1, length-append (encode_utf16 c) []);
}

pub none_small : IsSmallText []
none_small = record { utf_8 = omega arith; utf_16 = omega arith }
