-- Bytes that are the characters of their own numbers: a decoder finds the same ones as its codec.
use Rattle.std.proofs.Common.{◌≡◌, ℕ, Bool, true, false, Option, Some, None, List, ◌++◌, refl, sym, subst}
use Rattle.std.proofs.lemmas.Bool.{false≢true}
use Rattle.enc_decoder.specs.Segmentation.{Rule, sequences_of}
use Rattle.enc_decoder.specs.CodecState.{CodecState}
use Rattle.enc_decoder.specs.Latin1.{IsLatin1Prefix, HasNoByteSequences, CodecMayBeLatin1 as CodecMay}
use Rattle.enc_decoder.specs.Latin1.{AnswersCodecLatin1 as CodecAnswers}
use Rattle.enc_stream.specs.declared.encoding.Encoding.{Encoding}
use Rattle.enc_stream.specs.declared.life_cycle.LifeCycle.{LifeCycle}
use Rattle.enc_stream.specs.declared.life_cycle.LifeCycle.TheVariants.{AtStart, ConvertingWithPendingBb, Converting}
use Rattle.enc_stream.specs.declared.life_cycle.LifeCycle.TheVariants.{Finished}
use Rattle.enc_stream.specs.Encodings.{rule_of}
use Rattle.enc_stream.specs.LifeCycle.{decoder_state_of}
use Rattle.enc_stream.specs.Latin1.{has_byte_characters, DecoderMayBeLatin1, AnswersDecoderLatin1}
use Rattle.enc_codec.specs.CodecLaws.{DecidesBytes}
use Rattle.enc_stream.proofs.EncodingLemmas.{laws_of}
use Rattle.std.proofs.Common.{◌↔◌}

has_some : (has : Bool) (rule : Rule) → DecidesBytes has rule
    → (has ≡ true) ↔ ¬ (HasNoByteSequences rule)
has_some true rule some = (λ _. some, λ _. refl)
has_some false rule none = (λ e. absurd (false≢true e), λ some. absurd (some none))

module _ (e : Encoding) (codec : CodecState) (same_rule : rule_of e ≡ codec.rule) where
  by_bytes : DecidesBytes (has_byte_characters e.id) codec.rule
  by_bytes = subst (DecidesBytes (has_byte_characters e.id)) same_rule (laws_of e).bytes

  as_codec : DecoderMayBeLatin1 (decoder_state_of e Converting codec) → CodecMay codec
  as_codec may_be_latin1 = record {
    none_pending = may_be_latin1.none_pending;
    at_start = may_be_latin1.at_start;
    has_bytes = (has_some _ _ by_bytes).0 may_be_latin1.encoding;
  }

  as_decoder : CodecMay codec → DecoderMayBeLatin1 (decoder_state_of e Converting codec)
  as_decoder may_be_latin1 = record {
    going = refl;
    no_mark = refl;
    none_pending = may_be_latin1.none_pending;
    at_start = may_be_latin1.at_start;
    encoding = (has_some _ _ by_bytes).1 may_be_latin1.has_bytes;
  }

  converting_shows : (bytes : List ℕ) (answer : Option ℕ) → CodecAnswers codec bytes answer
      → AnswersDecoderLatin1 (decoder_state_of e Converting codec) bytes answer
  converting_shows bytes None n = λ m. n (as_codec m)
  converting_shows bytes (Some k) counted = (
    as_decoder counted.0,
    subst (λ (rule : Rule). IsLatin1Prefix
        (λ y. sequences_of rule codec.set (codec.pending ++ y))
        bytes k) (sym same_rule) counted.1,
  )

  -- after the place of a mark
  pub shows_latin1 : (life : LifeCycle) → life ≡ Converting → (bytes : List ℕ) (answer : Option ℕ)
      → CodecAnswers codec bytes answer
      → AnswersDecoderLatin1 (decoder_state_of e life codec) bytes answer
  shows_latin1 life is_converting bytes answer counted =
      rw is_converting (converting_shows bytes answer counted)

-- In no other of its states does the decoder have such bytes.
pub only_converting : (e : Encoding) (life : LifeCycle) (codec : CodecState)
    → DecoderMayBeLatin1 (decoder_state_of e life codec) → life ≡ Converting
only_converting e Converting codec may_be = refl
only_converting e Finished codec may_be = absurd (false≢true (sym may_be.going))
only_converting e ConvertingWithPendingBb codec may_be =
    let none = may_be.none_pending in absurd (cc)
only_converting e AtStart codec may_be = let none = may_be.no_mark in absurd (cc)
only_converting e _ codec may_be = let none = may_be.no_mark in absurd (cc)
