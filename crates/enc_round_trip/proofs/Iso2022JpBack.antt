-- The characters that ISO-2022-JP gives back: escape sequences have no text, and none follows
-- another directly.
use Rattle.std.proofs.Common.{◌≡◌, ℕ, ◌+◌, ◌-◌, ◌*◌, ◌/◌, ◌%◌, ◌<◌, ◌≤◌, Bool, true, false, cond, eqb, nat_lt, ◌&&◌}
use Rattle.std.proofs.Common.{◌||◌, ◌==◌, not, is_some, Some, None, List, [], ◌∷◌, ◌++◌, map, refl, ap}
use Rattle.std.proofs.Common.{subst, ◌∙◌, ◌⊎◌, arith, inl, inr, IfSome}
use Rattle.std.proofs.lemmas.Bool.{cond-true, cond-false, or_parts, or_from}
use Rattle.std.proofs.lemmas.Bool.Decides.{nat_tests}
use Rattle.enc_index.specs.Runs.{jis0208_at}
use Rattle.enc_index_pointers.specs.Pointers.{jis0208_pointer, any_pointer}
use Rattle.enc_decoder.specs.Sequence.{sequence_text, any_malformed}
use Rattle.enc_decoder.specs.Taking.{IsWholeChar}
use Rattle.enc_decoder.proofs.FirstSequenceLemmas.{true_or_false}
use Rattle.enc_decoder_iso_2022_jp.specs.declared.character_set.CharacterSet.{CharacterSet as Read}
use Rattle.enc_decoder_iso_2022_jp.specs.declared.character_set.CharacterSet.TheVariants as read
use Rattle.enc_decoder_iso_2022_jp.specs.declared.escape.Escape.{Escape}
use Rattle.enc_decoder_iso_2022_jp.specs.declared.escape.Escape.TheVariants.{ToAscii, ToRoman, ToJis0208Of1983}
use Rattle.enc_decoder_iso_2022_jp.specs.Iso2022Jp.{set_number, designated_set, one_byte_char}
use Rattle.enc_decoder_iso_2022_jp.specs.Iso2022Jp.{two_byte_char, iso_2022_jp_rule as jp_rule}
use Rattle.enc_decoder_iso_2022_jp.specs.Iso2022JpState.{escape_bytes, escape_set}
use Rattle.enc_decoder_iso_2022_jp.proofs.Iso2022JpLemmas.{skipped_escape}
use Rattle.enc_decoder_iso_2022_jp.proofs.EscapeLookahead.{other_front}
use Rattle.enc_decoder_iso_2022_jp.proofs.Iso2022JpPieces.{alone_piece, pair_piece}
use Rattle.enc_encoder.specs.declared.character_set.CharacterSet.{CharacterSet}
use Rattle.enc_encoder.specs.declared.character_set.CharacterSet.TheVariants.{Ascii, Roman, Jis0208}
use Rattle.enc_encoder.specs.Text.{escape_sequence, escape_at_end, list_or_empty, bytes_after_text, bytes_of_text}
use Rattle.enc_encode.specs.Japanese.{is_halfwidth_katakana}
use Rattle.enc_encode.specs.Iso2022Jp.{class_of, has_class, set_of_class, is_shift, lookup_char, jis0208_pair_bytes}
use Rattle.enc_encode.specs.Iso2022Jp.{iso_2022_jp_bytes, iso_2022_jp_encoder_rule}
use Rattle.enc_encode.proofs.Iso2022JpLemmas.{iso_2022_jp_is_lawful}
use Rattle.enc_encoder.specs.Unmappable.{any_unmappable}
use Rattle.enc_round_trip.proofs.ReadBackLemmas.{IsReadAs, read_nothing, read_more, first_mapped, of_bytes}
use Rattle.enc_round_trip.proofs.PointerLemmas.{IsPointer, by_pointer}
use Rattle.enc_round_trip.proofs.DoubleByteBack.{within}
use Rattle.enc_round_trip.proofs.JapaneseBack.{at_jis0208_pointer}

-- the sets that are written, as they are read

abbrev pub as_read : CharacterSet → Read
as_read Ascii = read.Ascii
as_read Roman = read.Roman
as_read Jis0208 = read.Jis0208

abbrev number : CharacterSet → ℕ
number s = set_number (as_read s)

-- an escape sequence has no text where none follows it directly

skipped_is_read : (set : ℕ) (e : Escape) (z t : List ℕ) → designated_set z ≡ None
    → IsReadAs jp_rule (set_number (escape_set e)) z t
    → IsReadAs jp_rule set (escape_bytes e ++ z) t
skipped_is_read set e z t n rest_is_read =
    let first = skipped_escape set e z n in
    record {
      none_malformed = ap any_malformed first ∙ rest_is_read.none_malformed;
      text = ap sequence_text first
          ∙ rest_is_read.text;
    }

after_escape : (set : ℕ) (s : CharacterSet) (z t : List ℕ) → designated_set z ≡ None
    → IsReadAs jp_rule (number s) z t
    → IsReadAs jp_rule set (escape_sequence s ++ z) t
after_escape set Ascii = skipped_is_read set ToAscii
after_escape set Roman = skipped_is_read set ToRoman
after_escape set Jis0208 = skipped_is_read set ToJis0208Of1983

-- A character's bytes are read in the set in which it is written, and begin with no escape
-- sequence.
record IsReadIn (s : CharacterSet) (b : List ℕ) (c : ℕ) : Type 0 where
  piece : IsWholeChar jp_rule (number s) b c
  plain : (y : List ℕ) → designated_set (b ++ y) ≡ None

one_read : (s : CharacterSet) (b c : ℕ) → one_byte_char (as_read s) b ≡ Some c
    → eqb b 0x1B ≡ false → IsReadIn s (b ∷ []) c
one_read s b c e n =
    record { piece = alone_piece (as_read s) b c e; plain = λ y. other_front b y n }

-- The set in which a character is written has its class: that of `\`, `A`, U+00A5 or U+4E00.

has : CharacterSet → ℕ → Bool
has s c = has_class s (class_of c)

latin_set : (s : CharacterSet) → has_class s (class_of 0x5C) ≡ true → s ≡ Ascii
latin_set Ascii h = refl
latin_set _ h = cc

neutral_set : (s : CharacterSet) → has_class s (class_of 0x41) ≡ true → (s ≡ Ascii) ⊎ (s ≡ Roman)
neutral_set Ascii h = inl refl
neutral_set Roman h = inr refl
neutral_set Jis0208 h = cc

roman_set : (s : CharacterSet) → has_class s (class_of 0xA5) ≡ true → s ≡ Roman
roman_set Roman h = refl
roman_set _ h = cc

kanji_set : (s : CharacterSet) → has_class s (class_of 0x4E00) ≡ true → s ≡ Jis0208
kanji_set Jis0208 h = refl
kanji_set _ h = cc

-- single bytes

is_ascii : (c : ℕ) → nat_lt c 0x80 ≡ true → is_shift c ≡ false
    → (nat_lt c 0x80 && not (c == 0x0E || c == 0x0F || c == 0x1B)) ≡ true
is_ascii c l n = rw (l, n) refl

no_escape : (c : ℕ) → is_shift c ≡ false → eqb c 0x1B ≡ false
no_escape c n = grind (arith, nat_tests)

in_ascii : (c : ℕ) → nat_lt c 0x80 ≡ true → is_shift c ≡ false → IsReadIn Ascii (c ∷ []) c
unfolding one_byte_char
in_ascii c l not_shift =
    one_read Ascii c c (rw (is_ascii c l not_shift) refl) (no_escape c not_shift)

in_roman : (c : ℕ) → nat_lt c 0x80 ≡ true → is_shift c ≡ false → (c == 0x5C || c == 0x7E) ≡ false
    → IsReadIn Roman (c ∷ []) c
unfolding one_byte_char
in_roman c l not_shift k =
    let either = or_parts (c == 0x5C) (c == 0x7E) k in
    one_read Roman c c (rw (either.0, either.1, is_ascii c l not_shift) refl)
    (no_escape c not_shift)

yen_read : IsReadIn Roman (0x5C ∷ []) 0xA5
unfolding one_byte_char
yen_read = one_read Roman 0x5C 0xA5 refl refl

line_read : IsReadIn Roman (0x7E ∷ []) 0x203E
unfolding one_byte_char
line_read = one_read Roman 0x7E 0x203E refl refl

-- pairs of jis0208

two_read : (a b c : ℕ) → 0x21 ≤ a → a ≤ 0x7E → 0x21 ≤ b → b ≤ 0x7E
    → jis0208_at ((a - 0x21) * 94 + (b - 0x21)) ≡ Some c → IsReadIn Jis0208 (a ∷ b ∷ []) c
unfolding two_byte_char
two_read a b c k l m n e =
    let other : eqb a 0x1B ≡ false = grind (arith, nat_tests) in
    record {
      piece = pair_piece a b c (cond-true _ _ _ (within 0x21 0x7E b m n) ∙ e)
          (within 0x21 0x7E a k l);
      plain = λ y. other_front a (b ∷ y) other;
    }

kanji_read : (c p : ℕ) → IsPointer jis0208_at any_pointer 8836 c p
    → IsReadIn Jis0208 (jis0208_pair_bytes p) c
kanji_read c p has_pointer =
    let below = has_pointer.below in
    let same : (p / 94 + 0x21 - 0x21) * 94 + (p % 94 + 0x21 - 0x21) ≡ p = omega arith in
    two_read (p / 94 + 0x21) (p % 94 + 0x21) c (omega arith) (omega arith) (omega arith)
    (omega arith)
    (ap jis0208_at same ∙ has_pointer.has)

-- all characters

low_itself : (c : ℕ) → c < 0x80 → lookup_char c ≡ c
low_itself c low =
    let no_katakana : is_halfwidth_katakana c ≡ false = grind (arith, nat_tests) in
    let no_minus : (c == 0x2212) ≡ false = grind (arith, nat_tests) in
    cond-false _ _ _ no_katakana ∙ cond-false _ _ _ no_minus

low_read : (s : CharacterSet) (c : ℕ) → has s c ≡ true → nat_lt c 0x80 ≡ true → is_shift c ≡ false
    → IsReadIn s (c ∷ []) c
unfolding has
low_read s c has_char is_low not_shift = elim (true_or_false (c == 0x5C || c == 0x7E)) [
  | inl is_latin ↦ rw (latin_set s (rw is_latin at has_char)) (in_ascii c is_low not_shift)
  | inr not_latin ↦ elim (neutral_set s (rw (not_latin, is_low) at has_char)) [
    | inl is_ascii ↦ rw is_ascii (in_ascii c is_low not_shift)
    | inr is_roman ↦ rw is_roman (in_roman c is_low not_shift not_latin)
  ]
]

not_latin : (c : ℕ) → nat_lt c 0x80 ≡ false → (c == 0x5C || c == 0x7E) ≡ false
not_latin c high = grind (arith, nat_tests)

high_read : (s : CharacterSet) (c : ℕ) → has s c ≡ true → nat_lt c 0x80 ≡ false
    → (c == 0xA5) ≡ false → (c == 0x203E) ≡ false → (p : ℕ)
    → jis0208_pointer (lookup_char c) ≡ Some p → IsReadIn s (jis0208_pair_bytes p) (lookup_char c)
unfolding has
high_read s c has_char high not_yen not_line p found =
    let set_is = kanji_set s (rw (not_latin c high, high, or_from _ _ not_yen not_line) at has_char)
    in
    rw set_is (kanji_read (lookup_char c) p (at_jis0208_pointer (lookup_char c) p found))

char_read : (s : CharacterSet) (c : ℕ) → has s c ≡ true
    → IfSome (iso_2022_jp_bytes c) (λ b. IsReadIn s b (lookup_char c))
unfolding has
char_read s c has_char = elim (true_or_false (nat_lt c 0x80)) [
  | inl low ↦ elim (true_or_false (is_shift c)) [
    | inl is_shift_code ↦ rw (low, is_shift_code) tt
    | inr not_shift ↦ rw (low, not_shift, low_itself c (grind (arith, nat_tests)))
        (low_read s c has_char low not_shift)
  ]
  | inr high ↦ elim (true_or_false (c == 0xA5)) [
    | inl is_yen ↦
        let yen : c ≡ 0xA5 = grind (arith, nat_tests) in
        rw (yen, roman_set s (rw yen at has_char)) yen_read
    | inr not_yen ↦ elim (true_or_false (c == 0x203E)) [
      | inl is_line ↦
          let line : c ≡ 0x203E = grind (arith, nat_tests) in
          rw (line, roman_set s (rw line at has_char)) line_read
      | inr not_line ↦ rw (high, not_yen, not_line)
          (by_pointer (λ x. IsReadIn s x (lookup_char c)) jis0208_pair_bytes
          (jis0208_pointer (lookup_char c)) (high_read s c has_char high not_yen not_line))
    ]
  ]
]

-- texts

read_in : (s : CharacterSet) (c : ℕ) → has s c ≡ true → is_some (iso_2022_jp_bytes c) ≡ true
    → IsReadIn s (list_or_empty (iso_2022_jp_bytes c)) (lookup_char c)
read_in s c has_char =
    of_bytes (λ b. IsReadIn s b (lookup_char c)) (iso_2022_jp_bytes c) (char_read s c has_char)

char_then : (s : CharacterSet) (b y t : List ℕ) (c : ℕ) → IsReadIn s b c
    → IsReadAs jp_rule (number s) y t → IsReadAs jp_rule (number s) (b ++ y) (c ∷ t)
char_then s b y t c p h = read_more jp_rule (number s) b c y t p.piece h

-- the bytes of a character with the escape sequence before it, by whether the set in force has it
step : (s : CharacterSet) (c : ℕ) (y t : List ℕ) (is_there : Bool) → has s c ≡ is_there
    → is_some (iso_2022_jp_bytes c) ≡ true
    → IsReadAs jp_rule (number (cond is_there s (set_of_class (class_of c)))) y t
    → IsReadAs jp_rule (number s)
    (cond is_there [] (escape_sequence (set_of_class (class_of c)))
    ++ (list_or_empty (iso_2022_jp_bytes c) ++ y)) (lookup_char c ∷ t)
unfolding has
step s c y t true e m h = char_then s _ y t (lookup_char c) (read_in s c e m) h
step s c y t false e m h =
    let designated = set_of_class (class_of c) in
    let one_step = read_in designated c (iso_2022_jp_is_lawful.designates c) m in
    after_escape (number s) designated (list_or_empty (iso_2022_jp_bytes c) ++ y)
    (lookup_char c ∷ t) (one_step.plain y)
    (char_then designated _ y t (lookup_char c) one_step h)

ends : (s : CharacterSet) → IsReadAs jp_rule (number s) (escape_at_end s) []
ends Ascii = read_nothing jp_rule 0
ends Roman = after_escape 1 Ascii [] [] refl (read_nothing jp_rule 0)
ends Jis0208 = after_escape 3 Ascii [] [] refl (read_nothing jp_rule 0)

suffix_is_read : (u t : List ℕ) → any_unmappable iso_2022_jp_encoder_rule t ≡ false
    → IsReadAs jp_rule (number (iso_2022_jp_encoder_rule.set_after Ascii u))
    (bytes_after_text iso_2022_jp_encoder_rule Ascii u t) (map lookup_char t)
unfolding has
suffix_is_read u [] m = ends (iso_2022_jp_encoder_rule.set_after Ascii u)
suffix_is_read u (c ∷ t) m =
    let set_now = iso_2022_jp_encoder_rule.set_after Ascii u in
    let rest = bytes_after_text iso_2022_jp_encoder_rule Ascii (u ++ c ∷ []) t in
    let both = first_mapped iso_2022_jp_encoder_rule c t m in
    step set_now c rest (map lookup_char t) (has set_now c) refl both.0
    (subst (λ x. IsReadAs jp_rule (number x) rest (map lookup_char t))
    (iso_2022_jp_is_lawful.set_after_more Ascii u c)
    (suffix_is_read (u ++ c ∷ []) t both.1))

pub iso_2022_jp_is_read : (t : List ℕ) → any_unmappable iso_2022_jp_encoder_rule t ≡ false
    → IsReadAs jp_rule 0 (bytes_of_text iso_2022_jp_encoder_rule Ascii t) (map lookup_char t)
iso_2022_jp_is_read t m = suffix_is_read [] t m
