-- Inputs that are divided after a byte, and recoded part by part.
use Rattle.std.specs.Prelude.{nat_lt}
use Rattle.std.proofs.Common.{◌≡◌, ◌≢◌, Bool, true, false, ◌||◌, List, [], ◌∷◌, ◌++◌, refl, ap, ◌∙◌}
use Rattle.std.proofs.Common.{slice_index}
use Rattle.std.proofs.lemmas.Bool.{false≢true}
use Rattle.std.specs.Char.{encode_utf8}
use Rattle.enc_utf8.specs.Text.{units_of_text}
use Rattle.enc_decoder.specs.Sequence.{Sequence, sequence_text, any_malformed}
use Rattle.enc_decoder.proofs.SequenceLemmas.{sequence_text-append, units-append, any_malformed-append}
use Rattle.enc_decoder.specs.Segmentation.{sequences_after}
use Rattle.enc_utf8.specs.Utf8Sequences.{sequence_len, is_second_byte, is_continuation}
use Rattle.enc_decoder_utf.specs.Utf8.{utf_8_rule}
use Rattle.enc_encoder.specs.EncoderRule.{EncoderRule}
use Rattle.enc_encoder.specs.Unmappable.{any_unmappable}
use Rattle.enc_encoder.proofs.UnmappableLemmas.{any_unmappable-append}
use Rattle.enc_names.specs.declared.encoding_id.EncodingId.TheVariants.{Utf8, Iso2022Jp}
use Rattle.enc_stream.specs.declared.bom.BomHandling.TheVariants.{Off}
use Rattle.enc_stream.specs.declared.encoding.Encoding.{Encoding}
use Rattle.enc_stream.specs.Encoder.{whole_bytes}
use Rattle.enc_stream.proofs.JoiningLemmas.{output_joins}
use Rattle.enc_stream.specs.Recoding.{recoded_bytes}

flags_exchange : (a b c d : Bool) → ((a || b) || (c || d)) ≡ ((a || c) || (b || d))
flags_exchange true b c d = refl
flags_exchange false true true d = refl
flags_exchange false true false d = refl
flags_exchange false false c d = refl

-- The sequences of a whole, by those of its two parts.
module _ (all first rest : List Sequence) (divided : all ≡ first ++ rest) where
  pub text_is_divided : sequence_text all ≡ sequence_text first ++ sequence_text rest
  text_is_divided = ap sequence_text divided ∙ sequence_text-append first rest

  pub utf_8_is_divided : units_of_text encode_utf8 (sequence_text all)
      ≡ units_of_text encode_utf8 (sequence_text first)
      ++ units_of_text encode_utf8 (sequence_text rest)
  utf_8_is_divided =
      ap (λ ss. units_of_text encode_utf8 (sequence_text ss)) divided
      ∙ units-append encode_utf8 first rest

  pub flag_is_divided : any_malformed all ≡ (any_malformed first || any_malformed rest)
  flag_is_divided = ap any_malformed divided ∙ any_malformed-append first rest

  pub bytes_are_joined : (to : Encoding) → to ≢ record { id = Iso2022Jp }
      → whole_bytes [] to (sequence_text all)
      ≡ whole_bytes [] to (sequence_text first) ++ whole_bytes [] to (sequence_text rest)
  bytes_are_joined to is_not =
      ap (whole_bytes [] to) text_is_divided
      ∙ output_joins to is_not (sequence_text first) (sequence_text rest)

  pub flags_are_joined : (rule : EncoderRule)
      → (any_malformed all || any_unmappable rule (sequence_text all))
      ≡ ((any_malformed first || any_unmappable rule (sequence_text first))
      || (any_malformed rest || any_unmappable rule (sequence_text rest)))
  flags_are_joined rule =
      ap (λ b. b || any_unmappable rule (sequence_text all)) flag_is_divided
      ∙ ap (λ b. (any_malformed first || any_malformed rest) || b)
      (ap (any_unmappable rule) text_is_divided
      ∙ any_unmappable-append rule (sequence_text first) (sequence_text rest))
      ∙ flags_exchange (any_malformed first) (any_malformed rest)
      (any_unmappable rule (sequence_text first)) (any_unmappable rule (sequence_text rest))

-- In ISO-2022-JP the first part ends with an escape sequence to ASCII. The whole stays in Roman.

pub iso_2022_jp_is_not_joined : recoded_bytes Off (record { id = Utf8 }) (record { id = Iso2022Jp })
    (0xC2 ∷ 0xA5 ∷ 0x0A ∷ 0x61 ∷ [])
    ≢ recoded_bytes Off (record { id = Utf8 }) (record { id = Iso2022Jp }) (0xC2 ∷ 0xA5 ∷ 0x0A ∷ [])
    ++ recoded_bytes Off (record { id = Utf8 }) (record { id = Iso2022Jp }) (0x61 ∷ [])
unfolding utf_8_rule sequence_len is_second_byte is_continuation sequences_after
iso_2022_jp_is_not_joined same =
    false≢true (ap (λ z. nat_lt (slice_index z 5) 0x20) same)
