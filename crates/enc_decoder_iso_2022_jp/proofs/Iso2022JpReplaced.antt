-- Bytes in ASCII in error mode "replacement", and the tables of their texts.
use Rattle.std.proofs.Common.{◌≡◌, ◌∙◌, ℕ, ◌<◌, true, eqb, Option, Some, None, List}
use Rattle.std.proofs.Common.{[]}
use Rattle.std.proofs.Common.{◌∷◌, length, take, drop, get_or, refl, sym, subst, arith, inl, inr, false}
use Rattle.std.proofs.lemmas.Bool.{cond-true, cond-false}
use Rattle.std.specs.Char.{IsScalar}
use Rattle.enc_index.specs.Grid.{HasWord}
use Rattle.enc_index.proofs.ByteEntries.{fits, bytes_fit, word_at, unit_at}
use Rattle.enc_index.proofs.PlaceLemmas.{same_some, some_none}
use Rattle.enc_index.proofs.GridEntries.{grid_tests, is_word, is_unit}
use Rattle.enc_output.specs.Pairs.{MeansWord}
use Rattle.enc_utf8.specs.Letters.{MeansUnit}
use Rattle.enc_decoder.specs.declared.byte_codec.Kind.TheVariants.{Valid, Malformed}
use Rattle.enc_decoder.specs.Taking.{IsReplacedChar}
use Rattle.enc_decoder.proofs.FirstSequenceLemmas.{true_or_false}
use Rattle.enc_decoder.proofs.PieceLemmas.{one_of}
use Rattle.enc_decoder.proofs.SegmentationLemmas.{sequences_of-head}
use Rattle.enc_decoder_iso_2022_jp.specs.declared.character_set.CharacterSet.TheVariants.{Ascii}
use Rattle.enc_decoder_iso_2022_jp.specs.declared.replaced_bytes.TheConstants.{REPLACED_WORDS, REPLACED_UNITS}
use Rattle.enc_decoder_iso_2022_jp.specs.Iso2022Jp.{set_number, ascii_char, one_byte_char, is_lead_byte}
use Rattle.enc_decoder_iso_2022_jp.specs.Iso2022Jp.{iso_2022_jp_rule as jp_rule}
use Rattle.enc_decoder_iso_2022_jp.specs.Iso2022JpReplaced.{char_or_replacement, replaced_ascii_char}
use Rattle.enc_decoder_iso_2022_jp.proofs.Iso2022JpComes.{alone}

no_lead : (b : ℕ) → is_lead_byte Ascii b ≡ false
unfolding is_lead_byte
no_lead b = refl

ascii_alone : (b : ℕ) → ascii_char b ≡ one_byte_char Ascii b
unfolding one_byte_char
ascii_alone b = refl

-- a byte that begins no escape sequence is one sequence
byte_alone : (b : ℕ) (found : Option ℕ) → found ≡ one_byte_char Ascii b → eqb b 0x1B ≡ false
    → IsReplacedChar jp_rule (set_number Ascii) (b ∷ []) (char_or_replacement found)
byte_alone b None is_char no_escape = (
  Malformed,
  λ y. sequences_of-head jp_rule (set_number Ascii) b y _
      (alone Ascii b None is_char (no_lead b) no_escape y),
)
byte_alone b (Some c) is_char no_escape = (
  Valid,
  λ y. sequences_of-head jp_rule (set_number Ascii) b y _
      (alone Ascii b (Some c) is_char (no_lead b) no_escape y),
)

replaced_piece : (b c : ℕ) → replaced_ascii_char b ≡ Some c → IsReplacedChar jp_rule 0 (b ∷ []) c
replaced_piece b c is_char = elim (true_or_false (eqb b 0x1B)) [
  | inl escape ↦ absurd (some_none _ c (cond-true _ _ _ escape) is_char)
  | inr other ↦ subst (λ k. IsReplacedChar jp_rule 0 (b ∷ []) k)
      (same_some _ c (sym (cond-false _ _ _ other) ∙ is_char))
      (byte_alone b (ascii_char b) (ascii_alone b) other)
]

pub replaced_at : (src : List ℕ) (at c : ℕ) → at < length src
    → replaced_ascii_char (get_or src at 0) ≡ Some c
    → IsReplacedChar jp_rule 0 (take 1 (drop at src)) c
replaced_at src at c within is_char =
    subst (λ z. IsReplacedChar jp_rule 0 z c) (sym (one_of src at within))
    (replaced_piece (get_or src at 0) c is_char)

pub means_word : (b word : ℕ) → HasWord (replaced_ascii_char b) word
    → MeansWord (IsReplacedChar jp_rule 0) (b ∷ []) word
means_word b word has_word = record {
  char = has_word.c;
  scalar = has_word.utf8.scalar;
  means = replaced_piece b has_word.c has_word.is;
  bound = omega (arith, has_word.utf8.bound);
  utf8 = has_word.utf8.bytes;
}

pub means_unit : (b unit : ℕ) → replaced_ascii_char b ≡ Some unit → IsScalar unit
    → MeansUnit (IsReplacedChar jp_rule 0) (b ∷ []) unit
means_unit b unit is_char is_scalar =
    record { scalar = is_scalar; means = replaced_piece b unit is_char }

-- the entries of all bytes, by a test

words_fit : bytes_fit is_word replaced_ascii_char 0 REPLACED_WORDS ≡ true
unfolding bytes_fit fits grid_tests
words_fit = refl

units_fit : bytes_fit is_unit replaced_ascii_char 0 REPLACED_UNITS ≡ true
unfolding bytes_fit fits grid_tests
units_fit = refl

words_count : length REPLACED_WORDS ≡ 256
words_count = refl

units_count : length REPLACED_UNITS ≡ 256
units_count = refl

pub replaced_word : (b : ℕ) → b < 256 → 0 < get_or REPLACED_WORDS b 0
    → HasWord (replaced_ascii_char b) (get_or REPLACED_WORDS b 0)
replaced_word b is_byte some =
    word_at replaced_ascii_char REPLACED_WORDS b (omega (arith, words_count, is_byte)) (λ _. some)
    words_fit

pub replaced_unit : (b : ℕ) → b < 256 → 0 < get_or REPLACED_UNITS b 0
    → (replaced_ascii_char b ≡ Some (get_or REPLACED_UNITS b 0))
    × IsScalar (get_or REPLACED_UNITS b 0)
replaced_unit b is_byte some =
    unit_at replaced_ascii_char REPLACED_UNITS b (omega (arith, units_count, is_byte)) (λ _. some)
    units_fit
