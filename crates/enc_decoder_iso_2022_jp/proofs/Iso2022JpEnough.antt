-- Which lengths are enough for ISO-2022-JP.
use Rattle.std.proofs.Common.{◌≡◌, sym, subst}
use Rattle.enc_decoder.specs.declared.text_lengths.TextLengths.TheVariants as lengths
use Rattle.enc_decoder.specs.CodecState.{CodecState}
use Rattle.enc_decoder.specs.Need.{AreEnoughForCodec}
use Rattle.enc_decoder.proofs.EnoughLemmas.{HasFewUnits, few_by_single_bytes, multi_byte_enough}
use Rattle.enc_decoder_iso_2022_jp.specs.Iso2022Jp.{iso_2022_jp_rule as jp_rule}
use Rattle.enc_decoder_iso_2022_jp.proofs.Iso2022JpForms.{has_form}
use Rattle.enc_decoder_iso_2022_jp.proofs.Iso2022JpRule.{iso_2022_jp_is_lawful}

few : HasFewUnits jp_rule
few = few_by_single_bytes jp_rule iso_2022_jp_is_lawful.small_texts
    (λ set b z. (has_form set b z).basic)

pub iso_2022_jp_enough : (v : CodecState) → v.rule ≡ jp_rule → AreEnoughForCodec lengths.MultiByte v
iso_2022_jp_enough v is_rule = multi_byte_enough v (subst HasFewUnits (sym is_rule) few)
