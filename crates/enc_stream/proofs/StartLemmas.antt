-- A decoder at the start, whose codec has read nothing.
use Rattle.std.proofs.Common.{◌≡◌, refl}
use Rattle.enc_index.specs.declared.codec.Codec.{Codec}
use Rattle.enc_decoder.specs.Segmentation.{Rule}
use Rattle.enc_decoder.specs.CodecState.{CodecState}
use Rattle.enc_decoder.specs.declared.text_lengths.TextLengths.{TextLengths}
use Rattle.enc_names.specs.EncodingTable.{codec_by_id}
use Rattle.enc_codec.specs.Codecs.{codec_rule, codec_lengths, initial_state}
use Rattle.enc_stream.specs.declared.bom.BomHandling.{BomHandling}
use Rattle.enc_stream.specs.declared.life_cycle.LifeCycle.{LifeCycle}
use Rattle.enc_stream.specs.declared.encoding.Encoding.{Encoding}
use Rattle.enc_stream.specs.Decoding.{fresh_decoder}
use Rattle.enc_stream.specs.LifeCycle.{start_life, decoder_state_of, HeldBytesMatchCodec, HasCodecOf, HasFormulasOf}
use Rattle.enc_stream.proofs.LifeCycleLemmas.{starts}

-- its state, by those of its life cycle and its codec
pub is_fresh : (handling : BomHandling) (e : Encoding) {life : LifeCycle} {rule : Rule}
    {state : CodecState} → life ≡ start_life handling e.id → state ≡ initial_state rule
    → decoder_state_of e life state ≡ fresh_decoder handling e
is_fresh handling e at_start has_state =
    let is = starts handling e in
    rw (at_start, has_state) (rw (is.marks, is.none_held, is.going) refl)

-- The invariant at the start: it goes by the life cycle, and not by the codec.

match_at_start : (handling : BomHandling) (e : Encoding) (rule : Rule)
    → HeldBytesMatchCodec (start_life handling e.id) (initial_state rule)
match_at_start handling e rule = record {
  unread = λ t. (refl, refl);
  held = rw (starts handling e).none_held refl;
}

pub holds_at_start : (handling : BomHandling) (e : Encoding) {life : LifeCycle} {codec : Codec}
    {state : CodecState} {formulas : TextLengths}
    → life ≡ start_life handling e.id → codec ≡ codec_by_id e.id
    → state ≡ initial_state (codec_rule codec) → formulas ≡ codec_lengths codec
    → HasCodecOf e life state × HasFormulasOf e formulas
holds_at_start handling e at_start is_own has_state has_formulas =
    rw at_start (rw has_state (rw has_formulas (rw is_own (
      (refl, match_at_start handling e (codec_rule (codec_by_id e.id))),
      refl,
    ))))
