-- The decoder's own states, in which it looks for a byte order mark, and each as its caller knows
-- it.
use Rattle.std.specs.Prelude.{◌≡◌, ℕ, ◌==◌, Bool, true, false, if◌then◌else◌, List, [], ◌∷◌, ◌++◌, length}
use Rattle.enc_names.specs.declared.encoding_id.EncodingId.{EncodingId}
use Rattle.enc_names.specs.declared.encoding_id.EncodingId.TheVariants.{Utf8, Utf16be, Utf16le}
use Rattle.enc_names.specs.EncodingTable.{codec_by_id}
use Rattle.enc_decoder.specs.CodecState.{CodecState}
use Rattle.enc_decoder.specs.declared.text_lengths.TextLengths.{TextLengths}
use Rattle.enc_codec.specs.Codecs.{codec_lengths}
use Rattle.enc_stream.specs.declared.bom.BomHandling.{BomHandling}
use Rattle.enc_stream.specs.declared.bom.BomHandling.TheVariants.{Off, Sniff, Remove}
use Rattle.enc_stream.specs.declared.encoding.Encoding.{Encoding}
use Rattle.enc_stream.specs.declared.life_cycle.LifeCycle.{LifeCycle}
use Rattle.enc_stream.specs.declared.life_cycle.LifeCycle.TheVariants.{AtStart, AtUtf8Start, AtUtf16BeStart}
use Rattle.enc_stream.specs.declared.life_cycle.LifeCycle.TheVariants.{AtUtf16LeStart, SeenUtf8First, SeenUtf8Second}
use Rattle.enc_stream.specs.declared.life_cycle.LifeCycle.TheVariants.{SeenUtf16BeFirst, SeenUtf16LeFirst}
use Rattle.enc_stream.specs.declared.life_cycle.LifeCycle.TheVariants.{ConvertingWithPendingBb, Converting, Finished}
use Rattle.enc_stream.specs.Encodings.{rule_of}
use Rattle.enc_stream.specs.Bom.{Mark, marks, any_mark, utf_8_mark, utf_16be_mark, utf_16le_mark}
use Rattle.enc_stream.specs.Decoding.{DecoderState}

-- the byte order marks that may still come
abbrev pub marks_of : LifeCycle → List Mark
marks_of AtStart = marks
marks_of AtUtf8Start = utf_8_mark ∷ []
marks_of AtUtf16BeStart = utf_16be_mark ∷ []
marks_of AtUtf16LeStart = utf_16le_mark ∷ []
marks_of SeenUtf8First = utf_8_mark ∷ []
marks_of SeenUtf8Second = utf_8_mark ∷ []
marks_of SeenUtf16BeFirst = utf_16be_mark ∷ []
marks_of SeenUtf16LeFirst = utf_16le_mark ∷ []
marks_of ConvertingWithPendingBb = []
marks_of Converting = []
marks_of Finished = []

-- whether one may
abbrev pub awaits_mark : LifeCycle → Bool
awaits_mark life = any_mark (marks_of life)

-- the bytes of a byte order mark that are held
abbrev pub held_mark_bytes : LifeCycle → List ℕ
held_mark_bytes SeenUtf8First = 0xEF ∷ []
held_mark_bytes SeenUtf8Second = 0xEF ∷ 0xBB ∷ []
held_mark_bytes SeenUtf16BeFirst = 0xFE ∷ []
held_mark_bytes SeenUtf16LeFirst = 0xFF ∷ []
held_mark_bytes ConvertingWithPendingBb = 0xBB ∷ []
held_mark_bytes _ = []

-- whether there are some
abbrev pub holds_bytes : List ℕ → Bool
holds_bytes [] = false
holds_bytes (b ∷ held) = true

-- whether the end of the input is reached
abbrev pub has_ended : LifeCycle → Bool
has_ended Finished = true
has_ended _ = false

-- the start of a decoder that removes the byte order mark of its own encoding
abbrev pub removal_start : EncodingId → LifeCycle
removal_start Utf8 = AtUtf8Start
removal_start Utf16be = AtUtf16BeStart
removal_start Utf16le = AtUtf16LeStart
removal_start _ = Converting

abbrev pub start_life : BomHandling → EncodingId → LifeCycle
start_life Off id = Converting
start_life Sniff id = AtStart
start_life Remove id = removal_start id

-- the pending bytes: those held of a byte order mark, or else those of the codec
abbrev pub held_or_pending_bytes : List ℕ → List ℕ → List ℕ
held_or_pending_bytes [] of_codec = of_codec
held_or_pending_bytes (b ∷ held) of_codec = b ∷ held

-- A decoder's state, by that of its codec.
abbrev pub decoder_state_of : Encoding → LifeCycle → CodecState → DecoderState
decoder_state_of e life codec =
    record {
      encoding = e;
      marks = marks_of life;
      set = codec.set;
      pending = held_or_pending_bytes (held_mark_bytes life) codec.pending;
      held = holds_bytes (held_mark_bytes life);
      finished = has_ended life;
    }

-- the held bytes of a byte order mark that the codec has not read, by the number of bytes that it
-- has pending
abbrev pub unread_bytes : LifeCycle → ℕ → List ℕ
unread_bytes life pending = if pending == 0 then held_mark_bytes life else []

-- While a byte order mark may come, the codec has read nothing. Of the held bytes it has none
-- pending, or all.
pub record HeldBytesMatchCodec (life : LifeCycle) (codec : CodecState) : Type 0 where
  pub unread : awaits_mark life ≡ true → (codec.set ≡ 0) × (codec.pending ≡ [])
  pub held : held_or_pending_bytes (held_mark_bytes life) codec.pending ≡ codec.pending
      ++ unread_bytes life (length codec.pending)

-- the codec of a decoder is that of its encoding
abbrev pub HasCodecOf : Encoding → LifeCycle → CodecState → Type 0
HasCodecOf e life codec = (rule_of e ≡ codec.rule) × HeldBytesMatchCodec life codec

-- its formulas too are those of its encoding
abbrev pub HasFormulasOf : Encoding → TextLengths → Type 0
HasFormulasOf e formulas = codec_lengths (codec_by_id e.id) ≡ formulas
