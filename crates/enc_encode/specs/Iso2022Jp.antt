-- The rule of the ISO-2022-JP encoder: bytes of characters, and character sets (Encoding Standard
-- 12.2.2, "ISO-2022-JP encoder").
use Rattle.std.specs.Prelude.{ℕ, ◌+◌, ◌-◌, ◌/◌, ◌%◌, Bool, true, false, ◌==◌, ◌||◌, nat_lt, Option, Some, None, List}
use Rattle.std.specs.Prelude.{[], ◌∷◌, reverse, slice_index, if◌then◌else◌}
use Rattle.enc_encoder.specs.declared.character_set.CharacterSet.{CharacterSet}
use Rattle.enc_encoder.specs.declared.character_set.CharacterSet.TheVariants.{Ascii, Roman, Jis0208}
use Rattle.enc_encode.specs.declared.encoders.iso_2022_jp.CharClass.{CharClass}
use Rattle.enc_encode.specs.declared.encoders.iso_2022_jp.CharClass.TheVariants as class
use Rattle.enc_index_pointers.specs.Pointers.{jis0208_pointer}
use Rattle.enc_encoder.specs.EncoderRule.{EncoderRule, RawEncoderState}
use Rattle.enc_encoder.specs.Barring.{barring_rule}
use Rattle.enc_encoder.specs.Stateless.{bytes_of_pointer}
use Rattle.enc_encode.specs.Japanese.{is_halfwidth_katakana, with_fullwidth_minus}
use Rattle.enc_encode.specs.Katakana.{fullwidth_katakana}

-- the class of a mappable character: in both ASCII and Roman, in ASCII alone, in Roman alone, or in
-- jis0208
abbrev pub class_of : ℕ → CharClass
class_of c =
    if c == 0x5C || c == 0x7E then class.Latin
    else if nat_lt c 0x80 then class.Neutral
    else if c == 0xA5 || c == 0x203E then class.Roman
    else class.Kanji

-- the character sets that have the characters of a class
abbrev pub has_class : CharacterSet → CharClass → Bool
has_class Ascii class.Neutral = true
has_class Ascii class.Latin = true
has_class Ascii class.Roman = false
has_class Ascii class.Kanji = false
has_class Roman class.Neutral = true
has_class Roman class.Latin = false
has_class Roman class.Roman = true
has_class Roman class.Kanji = false
has_class Jis0208 class.Neutral = false
has_class Jis0208 class.Latin = false
has_class Jis0208 class.Roman = false
has_class Jis0208 class.Kanji = true

-- the character set that is designated for a character of a class
abbrev pub set_of_class : CharClass → CharacterSet
set_of_class class.Neutral = Ascii
set_of_class class.Latin = Ascii
set_of_class class.Roman = Roman
set_of_class class.Kanji = Jis0208

-- the class of the last character that is not neutral, with one more after it
abbrev pub last_class_after : CharClass → Option CharClass → Option CharClass
last_class_after class.Neutral before = before
last_class_after class.Latin before = Some class.Latin
last_class_after class.Roman before = Some class.Roman
last_class_after class.Kanji before = Some class.Kanji

-- that class, if there is one, of a text read backward
abbrev pub last_non_neutral_class : List ℕ → Option CharClass
last_non_neutral_class [] = None
last_non_neutral_class (c ∷ u) = last_class_after (class_of c) (last_non_neutral_class u)

-- whether Roman is still designated, by that class, or by the initial set if there is none
abbrev pub stays_in_roman : CharacterSet → Option CharClass → Bool
stays_in_roman Ascii None = false
stays_in_roman Roman None = true
stays_in_roman Jis0208 None = false
stays_in_roman s (Some class.Neutral) = false
stays_in_roman s (Some class.Latin) = false
stays_in_roman s (Some class.Roman) = true
stays_in_roman s (Some class.Kanji) = false

-- the character set after a last character of this class
abbrev pub set_after_class : CharClass → Bool → CharacterSet
set_after_class class.Neutral in_roman = if in_roman then Roman else Ascii
set_after_class class.Latin in_roman = if in_roman then Roman else Ascii
set_after_class class.Roman in_roman = if in_roman then Roman else Ascii
set_after_class class.Kanji in_roman = Jis0208

-- The character set after a text, which is read backward: jis0208 if the last character is in it;
-- Roman if the last character that is not neutral is in it, or if all are neutral and Roman was
-- designated before; otherwise ASCII.
abbrev pub set_after_reversed : CharacterSet → List ℕ → CharacterSet
set_after_reversed s [] = s
set_after_reversed s (c ∷ u) =
    set_after_class (class_of c) (stays_in_roman s (last_non_neutral_class (c ∷ u)))

-- shift out, shift in and escape
abbrev pub is_shift : ℕ → Bool
is_shift c = c == 0x0E || c == 0x0F || c == 0x1B

-- the character that is looked up; for half-width katakana a full-width one
abbrev pub lookup_char : ℕ → ℕ
lookup_char c =
    if is_halfwidth_katakana c then slice_index fullwidth_katakana (c - 0xFF61)
    else with_fullwidth_minus c

-- the two bytes of a pointer
abbrev pub jis0208_pair_bytes : ℕ → List ℕ
jis0208_pair_bytes p = (p / 94 + 0x21) ∷ (p % 94 + 0x21) ∷ []

-- the bytes of a character, in the character set that has it
abbrev pub iso_2022_jp_bytes : ℕ → Option (List ℕ)
iso_2022_jp_bytes c =
    if nat_lt c 0x80 then (if is_shift c then None else Some (c ∷ []))
    else if c == 0xA5 then Some (0x5C ∷ [])
    else if c == 0x203E then Some (0x7E ∷ [])
    else bytes_of_pointer jis0208_pair_bytes (jis0208_pointer (lookup_char c))

-- the character that an unmappable one is reported as
abbrev pub iso_2022_jp_reported_char : ℕ → ℕ
iso_2022_jp_reported_char c = if is_shift c then 0xFFFD else c

-- the rule of the encoder
abbrev pub iso_2022_jp_encoder_rule : EncoderRule
iso_2022_jp_encoder_rule = record {
  bytes = iso_2022_jp_bytes;
  reported = iso_2022_jp_reported_char;
  has = λ s c. has_class s (class_of c);
  designated = λ c. set_of_class (class_of c);
  set_after = λ s t. set_after_reversed s (reverse t);
}

-- with these characters barred
abbrev pub iso_2022_jp_encoder_state : List ℕ → CharacterSet → RawEncoderState
iso_2022_jp_encoder_state b s = record { rule = barring_rule b iso_2022_jp_encoder_rule; set = s }
