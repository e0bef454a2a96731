-- The bytes of texts are joined in every output encoding but ISO-2022-JP.
use Rattle.std.proofs.Common.{◌≡◌, ◌≢◌, true, [], refl, ap, subst}
use Rattle.enc_index.specs.declared.codec.Codec.TheVariants as codec
use Rattle.enc_encoder.specs.declared.character_set.CharacterSet.TheVariants.{Ascii}
use Rattle.enc_encoder.specs.EncoderRule.{EncoderRule}
use Rattle.enc_encoder.specs.Joining.{JoinsTexts}
use Rattle.enc_encoder.proofs.JoiningLemmas.{joins_texts}
use Rattle.enc_names.specs.declared.encoding_id.EncodingId.{EncodingId}
use Rattle.enc_names.specs.declared.encoding_id.EncodingId.TheVariants.{Iso2022Jp}
use Rattle.enc_names.specs.EncodingTable.{codec_by_id}
use Rattle.enc_stream.specs.declared.encoding.Encoding.{Encoding}
use Rattle.enc_stream.specs.Encodings.{output_rule}
use Rattle.enc_stream.proofs.EncoderLemmas.{stays_in_ascii, rule_of_facts}
use Rattle.enc_stream.proofs.ReferenceLemmas.{lawful_of}

id_of_iso_2022_jp : (id : EncodingId) → codec_by_id id ≡ codec.Iso2022Jp → id ≡ Iso2022Jp
id_of_iso_2022_jp Iso2022Jp is_iso = refl
id_of_iso_2022_jp _ is_iso = cc

of_id : EncodingId → Encoding
of_id id = record { id = id }

pub output_joins : (to : Encoding) → to ≢ record { id = Iso2022Jp } → JoinsTexts (output_rule [] to)
unfolding of_id
output_joins to is_not =
    let of_codec = codec_by_id to.id in
    let stays = stays_in_ascii of_codec
    (λ is_iso. is_not (ap of_id (id_of_iso_2022_jp to.id is_iso))) in
    joins_texts (output_rule [] to) (lawful_of [] to)
    (λ c. subst (λ (rule : EncoderRule). rule.has Ascii c ≡ true) (rule_of_facts of_codec)
    (stays c))
