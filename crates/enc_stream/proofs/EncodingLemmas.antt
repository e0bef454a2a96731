-- The laws of the rule of each encoding: those of its codec.
use Rattle.std.proofs.Common.{◌≡◌, ◌∙◌, ap, sym, subst, refl, true, Bool}
use Rattle.enc_decoder.specs.RuleLaws.{HasLookahead, HasTexts, HasSmallTexts, ReplacesMalformed}
use Rattle.enc_codec.specs.Codecs.{codec_facts}
use Rattle.enc_codec.specs.CodecLaws.{Decides, KeepsCodecLaws}
use Rattle.enc_codec.proofs.CodecLaws.{codec_laws}
use Rattle.enc_names.specs.declared.encoding_id.EncodingId.{EncodingId}
use Rattle.enc_names.specs.declared.encoding_id.EncodingId.TheVariants.{Replacement, Iso2022Jp}
use Rattle.enc_names.specs.EncodingTable.{codec_by_id}
use Rattle.enc_stream.specs.declared.encoding.Encoding.{Encoding}
use Rattle.enc_stream.specs.Encodings.{rule_of}

pub laws_of : (e : Encoding) → KeepsCodecLaws (rule_of e) (codec_facts (codec_by_id e.id))
laws_of e = codec_laws (codec_by_id e.id)

pub lookahead_of : (e : Encoding) → HasLookahead (rule_of e)
lookahead_of e = (laws_of e).lawful.lookahead

pub small_texts : (e : Encoding) → HasSmallTexts (rule_of e)
small_texts e = (laws_of e).lawful.small_texts

pub replacements : (e : Encoding) → ReplacesMalformed (rule_of e)
replacements e = (laws_of e).lawful.replacements

-- In two encodings some sequences have no text.

codec_has_texts : (id : EncodingId) → (id ≡ Replacement → ⊥) → (id ≡ Iso2022Jp → ⊥)
    → (codec_facts (codec_by_id id)).has_texts ≡ true
codec_has_texts Replacement n m = absurd (n refl)
codec_has_texts Iso2022Jp n m = absurd (m refl)
codec_has_texts _ n m = refl

abbrev encoding_at : EncodingId → Encoding
encoding_at id = record { id = id }

pub has_texts : (e replacement iso_2022_jp : Encoding) → replacement.id ≡ Replacement
    → iso_2022_jp.id ≡ Iso2022Jp
    → (e ≡ replacement → ⊥) → (e ≡ iso_2022_jp → ⊥) → HasTexts (rule_of e)
has_texts e replacement iso_2022_jp r j n m =
    subst (λ (has : Bool). Decides has (HasTexts (rule_of e)))
    (codec_has_texts e.id (λ i. n (ap encoding_at (i ∙ sym r)))
    (λ i. m (ap encoding_at (i ∙ sym j))))
    (laws_of e).texts
