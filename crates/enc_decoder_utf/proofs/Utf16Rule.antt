-- The laws of UTF-16's rule, by its prefixes.
use Rattle.std.proofs.Common.{Bool, [], ◌∷◌, ap, arith}
use Rattle.enc_decoder.specs.Segmentation.{Head}
use Rattle.enc_decoder.specs.RuleLaws.{HasTexts, IsLawfulRule}
use Rattle.enc_decoder.specs.Latin1.{HasNoByteSequences}
use Rattle.enc_decoder.proofs.PrefixRule.{prefixes_are_lawful, prefixes_have_texts}
use Rattle.enc_decoder_utf.specs.Utf16.{utf_16_prefix, utf_16_rule}
use Rattle.enc_decoder_utf.proofs.Utf16Prefixes.{utf_16_prefixes}
use Rattle.enc_decoder_utf.proofs.Utf16Lemmas.{one_head, some_more}

module _ (big : Bool) where
  pub utf_16_has_texts : HasTexts (utf_16_rule big)
  utf_16_has_texts = prefixes_have_texts (utf_16_prefix big) (utf_16_prefixes big)

  pub utf_16_is_lawful : IsLawfulRule (utf_16_rule big)
  utf_16_is_lawful = prefixes_are_lawful (utf_16_prefix big) (utf_16_prefixes big)

  -- a character has two bytes or four
  pub utf_16_has_no_bytes : HasNoByteSequences (utf_16_rule big)
  utf_16_has_no_bytes b [] valid =
      let kinds_agree = ap (λ (h : Head). h.kind) (one_head big 0 b) in absurd (cc)
  utf_16_has_no_bytes b (c ∷ z) valid = some_more big 0 b (c ∷ z) (omega arith)
