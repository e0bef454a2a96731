-- Every encoder keeps the law.
-- Written by scripts/make-sources from data/templates: change the text there, and not this file.
use Rattle.std.proofs.Common.{◌≡◌, ℕ, true, false, Option, List, refl, ap, sym, ◌∙◌, subst}
use Rattle.std.proofs.lemmas.Bool.{false≢true}
use Rattle.enc_index.specs.declared.codec.Codec.{Codec}
use Rattle.enc_index.specs.declared.codec.Codec.TheVariants as codec
use Rattle.enc_encoder.specs.declared.byte_lengths.ByteLengths.{ByteLengths}
use Rattle.enc_encoder.specs.declared.character_set.CharacterSet.{CharacterSet}
use Rattle.enc_encoder.specs.declared.character_set.CharacterSet.TheVariants.{Ascii}
use Rattle.enc_encoder.specs.EncoderRule.{EncoderRule, RawEncoderState}
use Rattle.enc_encoder.specs.Need.{AreEnoughForEncoder}
use Rattle.enc_encoder.specs.Stateless.{stateless_rule, IsLawfulRepertoire}
use Rattle.enc_encoder.specs.Barring.{bytes_unless_barred, barring_rule}
use Rattle.enc_encoder.proofs.StatelessLemmas.{stateless_is_lawful}
use Rattle.enc_encoder.proofs.BarringLemmas.{except_keeps}
use Rattle.enc_encoder.proofs.EnoughLemmas.{stateless_enough}
use Rattle.enc_encode.specs.declared.variant.VariantEncoder.{VariantEncoder}
use Rattle.enc_encode.specs.declared.variant.VariantEncoder.TheVariants.{Iso2022Jp}
use Rattle.enc_encode.specs.Encoders.{stateless_facts, output_facts, encoder_lengths}
use Rattle.enc_encode.specs.EncoderLaws.{StaysInAscii, MayBeIn, KeepsEncoderLaws}
use Rattle.enc_encode.specs.Variant.{variant_encoder_state}
use Rattle.enc_encode.proofs.RepertoireLaws as repertoire
use Rattle.enc_encode.proofs.PlainRepertoires as plain
use Rattle.enc_encode.proofs.Iso2022JpLemmas.{iso_2022_jp_is_lawful}
use Rattle.enc_encode.proofs.Iso2022JpEnough.{iso_2022_jp_enough}

stateless : (formulas : ByteLengths) (bytes : ℕ → Option (List ℕ)) → IsLawfulRepertoire formulas bytes
    → KeepsEncoderLaws (stateless_facts formulas bytes)
stateless formulas bytes laws = record {
  lawful = stateless_is_lawful bytes laws.ascii laws.few;
  enough = λ b s may_be_in.
      let in_set : CharacterSet → RawEncoderState =
      λ t. record { rule = stateless_rule (bytes_unless_barred b bytes); set = t } in
      subst (λ t. AreEnoughForEncoder formulas (in_set t)) (sym (may_be_in (λ c. refl)))
      (stateless_enough formulas (bytes_unless_barred b bytes) (except_keeps b formulas bytes laws.lengths));
  ascii = λ stays. laws.ascii;
}

pub encoder_laws : (c : Codec) → KeepsEncoderLaws (output_facts c)
encoder_laws codec.Utf8 = stateless _ _ repertoire.utf_8
encoder_laws codec.Utf16Be = stateless _ _ repertoire.utf_8
encoder_laws codec.Utf16Le = stateless _ _ repertoire.utf_8
encoder_laws (codec.SingleByte index) = stateless _ _ (repertoire.single_byte index)
encoder_laws codec.Big5 = stateless _ _ repertoire.big5
encoder_laws codec.EucKr = stateless _ _ plain.euc_kr
encoder_laws codec.ShiftJis = stateless _ _ repertoire.shift_jis
encoder_laws codec.EucJp = stateless _ _ repertoire.euc_jp
encoder_laws codec.Gbk = stateless _ _ (repertoire.gb18030 true)
encoder_laws codec.Gb18030 = stateless _ _ (repertoire.gb18030 false)
encoder_laws codec.XUserDefined = stateless _ _ repertoire.x_user_defined
encoder_laws codec.Replacement = stateless _ _ repertoire.utf_8
encoder_laws codec.Iso2022Jp = record {
  lawful = iso_2022_jp_is_lawful;
  enough = λ b s may_be_in. iso_2022_jp_enough b s;
  ascii = λ stays. absurd (false≢true (stays 0xA5));
}

-- so the lengths are enough for an encoder of the rule, in the set that it is in

may_be_in : (v : VariantEncoder) → MayBeIn (variant_encoder_state v).rule (variant_encoder_state v).set
may_be_in (Iso2022Jp e) stays = absurd (false≢true (stays 0xA5))
may_be_in _ stays = refl

pub enough_of : (b : List ℕ) (c : Codec) (v : VariantEncoder)
    → (variant_encoder_state v).rule ≡ barring_rule b (output_facts c).rule
    → AreEnoughForEncoder (encoder_lengths c) (record {
      rule = barring_rule b (output_facts c).rule;
      set = (variant_encoder_state v).set;
    })
enough_of b c v rule_is =
    let stays : StaysInAscii (output_facts c).rule → StaysInAscii (variant_encoder_state v).rule =
    λ all ch. ap (λ (r : EncoderRule). r.has Ascii ch) rule_is ∙ all ch in
    (encoder_laws c).enough b (variant_encoder_state v).set (λ all. may_be_in v (stays all))
