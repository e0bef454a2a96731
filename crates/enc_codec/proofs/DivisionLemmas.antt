-- Rules by which an input is not divided after a line feed.
use Rattle.std.proofs.Common.{◌≡◌, ℕ, ◌<◌, Bool, true, false, [], ◌∷◌, length, ap, arith}
use Rattle.enc_decoder.specs.Sequence.{sequence_text}
use Rattle.enc_decoder.specs.Segmentation.{sequences_after}
use Rattle.enc_decoder.specs.Division.{IsDividedAfter}
use Rattle.enc_decoder.specs.Prefixes.{prefix_rule}
use Rattle.enc_decoder_utf.specs.Utf16.{code_unit, is_lead_surrogate, is_trail_surrogate, utf_16_rule}
use Rattle.enc_decoder_single_byte.specs.Replacement.{replacement_rule}
use Rattle.enc_decoder_iso_2022_jp.specs.Iso2022Jp.{iso_2022_jp_rule, is_lead_byte, one_byte_char}

numbers_differ : (n m : ℕ) → n < m → n ≡ m → ⊥
numbers_differ n m less same = omega arith

second_chars_differ : (c n m : ℕ) → n < m → c ∷ m ∷ [] ≡ c ∷ n ∷ [] → ⊥
second_chars_differ c n m less same = let same_char : m ≡ n = cc in omega arith

-- UTF-16: 0A 61 is one code unit

pub utf_16_is_not_divided : (big : Bool) → ¬ (IsDividedAfter 0x0A (utf_16_rule big))
unfolding prefix_rule code_unit is_lead_surrogate is_trail_surrogate sequences_after
utf_16_is_not_divided true divided =
    numbers_differ 1 2 (omega arith) (ap length (divided [] (0x61 ∷ [])))
utf_16_is_not_divided false divided =
    numbers_differ 1 2 (omega arith) (ap length (divided [] (0x61 ∷ [])))

-- replacement: the first byte of an input is malformed, and all others are skipped

pub replacement_is_not_divided : ¬ (IsDividedAfter 0x0A replacement_rule)
unfolding replacement_rule sequences_after
replacement_is_not_divided divided =
    numbers_differ 1 2 (omega arith)
    (ap (λ ss. length (sequence_text ss)) (divided [] (0x61 ∷ [])))

-- ISO-2022-JP: the set Roman, which an escape sequence designates, outlasts a line feed

pub iso_2022_jp_is_not_divided : ¬ (IsDividedAfter 0x0A iso_2022_jp_rule)
unfolding iso_2022_jp_rule is_lead_byte one_byte_char sequences_after
iso_2022_jp_is_not_divided divided =
    second_chars_differ 0x0A 0x5C 0xA5 (omega arith)
    (ap sequence_text (divided (0x1B ∷ 0x28 ∷ 0x4A ∷ []) (0x5C ∷ [])))
