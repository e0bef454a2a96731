-- The lengths of ISO-2022-JP are enough.
use Rattle.std.proofs.Common.{ℕ, ◌+◌, ◌<◌, ◌≤◌, List, length, arith}
use Rattle.std.specs.Char.{encode_utf8}
use Rattle.std.specs.Char.Escape.{encode_utf16}
use Rattle.enc_utf8.specs.Text.{units_of_text}
use Rattle.enc_encoder.specs.declared.byte_lengths.ByteLengths.TheVariants.{Iso2022Jp}
use Rattle.enc_encoder.specs.declared.character_set.CharacterSet.{CharacterSet}
use Rattle.enc_encoder.specs.EncoderRule.{EncoderRule}
use Rattle.enc_encoder.specs.Text.{escape_before}
use Rattle.enc_encoder.specs.Steps.{first_written_char}
use Rattle.enc_encoder.specs.Need.{AreEnoughForEncoder}
use Rattle.enc_encode.specs.Iso2022Jp.{iso_2022_jp_encoder_rule, iso_2022_jp_bytes, iso_2022_jp_encoder_state}
use Rattle.enc_encoder.proofs.SizeLemmas.{size}
use Rattle.enc_encode.proofs.Iso2022JpLemmas.{most_iso_2022_jp, most_ascii_iso_2022_jp}
use Rattle.enc_encoder.specs.Barring.{barring_rule}
use Rattle.enc_encoder.proofs.BarringLemmas.{fewer}
use Rattle.enc_encoder.proofs.EnoughLemmas.{within_utf_8, within_utf_16, cost, enough, three_before}
use Rattle.enc_encoder.proofs.EnoughLemmas.{three_at_end}

-- of a character, where these are barred
module _ (b : List ℕ) where
  abbrev rule : EncoderRule
  rule = barring_rule b iso_2022_jp_encoder_rule

  before_char : (s : CharacterSet) (c : ℕ)
      → length (escape_before rule s (first_written_char c (rule.bytes c))) ≤ 3
  before_char s c = three_before (rule.has s (first_written_char c (rule.bytes c)))
      (rule.designated (first_written_char c (rule.bytes c)))

  five : (s : CharacterSet) (c : ℕ) → cost rule s c ≤ 5
  five s c = omega (arith, before_char s c, fewer b iso_2022_jp_bytes c, most_iso_2022_jp c)

  four_in_ascii : (s : CharacterSet) (c : ℕ) → c < 0x80 → cost rule s c ≤ 4
  four_in_ascii s c l = omega
      (arith, before_char s c, fewer b iso_2022_jp_bytes c, most_ascii_iso_2022_jp c l)

  pub iso_2022_jp_enough : (set : CharacterSet)
      → AreEnoughForEncoder Iso2022Jp (iso_2022_jp_encoder_state b set)
  iso_2022_jp_enough set =
      enough Iso2022Jp rule (λ s. Unit {0}) (λ s c _. tt) (λ s _. three_at_end s)
      (λ s c _. within_utf_8 (cost rule s c) 4 c (four_in_ascii s c) (omega (arith, five s c)))
      (λ s c _. within_utf_16 (cost rule s c) 5 c (five s c)) set tt
