-- The rule of ISO-2022-JP is lawful: its sets, read backward and carried forward, and two bytes at
-- most.
use Rattle.std.proofs.Common.{◌≡◌, ℕ, ◌<◌, ◌≤◌, Bool, true, false, ◌==◌, ◌||◌, nat_lt, Option, Some, None, List}
use Rattle.std.proofs.Common.{[], ◌∷◌, ◌++◌, reverse, refl, ap, ◌∙◌, sym, arith, if◌then◌else◌}
use Rattle.std.proofs.lemmas.List.{reverse-append}
use Rattle.std.proofs.lemmas.Bool.Decides.{nat_tests}
use Rattle.enc_encoder.specs.declared.character_set.CharacterSet.{CharacterSet}
use Rattle.enc_encoder.specs.declared.character_set.CharacterSet.TheVariants.{Ascii, Roman, Jis0208}
use Rattle.enc_encode.specs.declared.encoders.iso_2022_jp.CharClass.{CharClass}
use Rattle.enc_encode.specs.declared.encoders.iso_2022_jp.CharClass.TheVariants as class
use Rattle.enc_encoder.specs.EncoderRule.{IsLawfulEncoderRule, IsReferenceCharacter, set_for}
use Rattle.enc_encode.specs.Iso2022Jp.{class_of, has_class, set_of_class, last_class_after, last_non_neutral_class}
use Rattle.enc_encode.specs.Iso2022Jp.{stays_in_roman, set_after_class, set_after_reversed, is_shift, iso_2022_jp_bytes}
use Rattle.enc_encode.specs.Iso2022Jp.{lookup_char, jis0208_pair_bytes, iso_2022_jp_encoder_rule}
use Rattle.enc_index_pointers.specs.Pointers.{jis0208_pointer}
use Rattle.enc_encoder.proofs.SizeLemmas.{size, up_to_if, up_to_by, few_if_up_to}

is_roman : CharacterSet → Bool
is_roman Ascii = false
is_roman Roman = true
is_roman Jis0208 = false

-- the set in which a character of a class is written
for_class : CharacterSet → CharClass → CharacterSet
for_class s k = if has_class s k then s else set_of_class k

none_is : (s : CharacterSet) → is_roman s ≡ stays_in_roman s None
unfolding is_roman
none_is Ascii = refl
none_is _ = refl

set_by_is : (s : CharacterSet) (k : CharClass) (o : Option CharClass)
    → is_roman (set_after_class k (stays_in_roman s (last_class_after k o)))
    ≡ stays_in_roman s (last_class_after k o)
unfolding is_roman
set_by_is Ascii class.Latin o = refl
set_by_is s class.Neutral o =
    elim (stays_in_roman s o) as
    (λ b. is_roman (if b then Roman else Ascii) ≡ b) [ true ↦ refl | false ↦ refl ]
set_by_is _ _ o = refl

-- Roman is in force where it was left on
roman_is : (s : CharacterSet) (u : List ℕ)
    → is_roman (set_after_reversed s u) ≡ stays_in_roman s (last_non_neutral_class u)
roman_is s [] = none_is s
roman_is s (c ∷ u) = set_by_is s (class_of c) (last_non_neutral_class u)

carried : (s t : CharacterSet) (k : CharClass) (o : Option CharClass)
    → is_roman t ≡ stays_in_roman s o
    → set_after_class k (stays_in_roman s (last_class_after k o)) ≡ for_class t k
unfolding is_roman for_class
carried Ascii Ascii class.Latin o e = refl
carried s Ascii class.Neutral o e = rw (sym e) refl
carried s Roman class.Neutral o e = rw (sym e) refl
carried s Jis0208 class.Neutral o e = rw (sym e) refl
carried _ _ _ o e = refl

-- one character more
read_back-cons : (s : CharacterSet) (c : ℕ) (u : List ℕ)
    → set_after_reversed s (c ∷ u) ≡ set_for iso_2022_jp_encoder_rule (set_after_reversed s u) c
unfolding for_class
read_back-cons s c u =
    carried s (set_after_reversed s u) (class_of c) (last_non_neutral_class u) (roman_is s u)

set_after_more : (s : CharacterSet) (t : List ℕ) (c : ℕ)
    → set_after_reversed s (reverse (t ++ c ∷ []))
    ≡ set_for iso_2022_jp_encoder_rule (set_after_reversed s (reverse t)) c
set_after_more s t c = ap (set_after_reversed s) (reverse-append t (c ∷ []))
    ∙ read_back-cons s c (reverse t)

own : (k : CharClass) → has_class (set_of_class k) k ≡ true
own class.Neutral = refl
own _ = refl

neutral : (c : ℕ) → IsReferenceCharacter c → class_of c ≡ class.Neutral
neutral c r =
    let not_twin : (c == 0x5C || c == 0x7E) ≡ false = grind (arith, nat_tests) in
    let is_low : nat_lt c 0x80 ≡ true = grind (arith, nat_tests) in
    rw (not_twin, is_low) refl

itself : (c : ℕ) → IsReferenceCharacter c → iso_2022_jp_bytes c ≡ Some (c ∷ [])
itself c r =
    let not_shift : is_shift c ≡ false = grind (arith, nat_tests) in
    let is_low : nat_lt c 0x80 ≡ true = grind (arith, nat_tests) in
    rw (is_low, not_shift) refl

-- at most two bytes, and of ASCII one

pub most_iso_2022_jp : (c : ℕ) → size (iso_2022_jp_bytes c) ≤ 2
most_iso_2022_jp c =
    up_to_if 2 (nat_lt c 0x80) _ _
    (up_to_if 2 (is_shift c) None (Some (c ∷ [])) (omega arith) (omega arith))
    (up_to_if 2 (c == 0xA5) (Some (0x5C ∷ [])) _ (omega arith)
    (up_to_if 2 (c == 0x203E) (Some (0x7E ∷ [])) _ (omega arith)
    (up_to_by 2 jis0208_pair_bytes (jis0208_pointer (lookup_char c)) (λ n. omega arith))))

pub most_ascii_iso_2022_jp : (c : ℕ) → c < 0x80 → size (iso_2022_jp_bytes c) ≤ 1
most_ascii_iso_2022_jp c l =
    let low : nat_lt c 0x80 ≡ true = grind (arith, nat_tests) in
    rw low (up_to_if 1 (is_shift c) None (Some (c ∷ [])) (omega arith) (omega arith))

pub iso_2022_jp_is_lawful : IsLawfulEncoderRule iso_2022_jp_encoder_rule
iso_2022_jp_is_lawful = record {
  designates = λ c. own (class_of c);
  set_after_none = λ s. refl;
  set_after_more = set_after_more;
  references = itself;
  one_set = λ s c r. ap (has_class s) (neutral c r);
  few = λ c. few_if_up_to 2 (iso_2022_jp_bytes c) (omega arith) (most_iso_2022_jp c);
}
