-- A run from a source to a sink: its text and its bytes, at the end and after a fault. The bytes
-- are decoded by `from`, or by the encoding of a byte order mark at the start, if `handling` looks
-- for it. The mark is dropped. The text is written in the output encoding of `to`.
use Rattle.std.specs.Prelude.{◌≡◌, ℕ, ◌^◌, ◌<◌, Bool, true, false, ◌||◌, List, [], ◌∷◌, ◌++◌, length, Option, IfSome}
use Rattle.std.specs.Prelude.{Some, IfOk, OnOk, OnErr, IsErrOf}
use Rattle.std.specs.declared.result.Result.{Result}
use Rattle.enc_stream.specs.declared.bom.BomHandling.{BomHandling}
use Rattle.enc_stream.specs.declared.encoding.Encoding.{Encoding}
use Rattle.enc_decoder.specs.Sequence.{Sequence, sequence_text}
use Rattle.enc_decoder.specs.Remainder.{Determines}
use Rattle.enc_stream.specs.Properties.{output_encoding_of}
use Rattle.enc_stream.specs.Decoding.{whole_sequences}
use Rattle.enc_stream.specs.Encoder.{EncoderState, whole_bytes}
use Rattle.enc_stream.specs.Recoding.{recoded_bytes, any_replaced}
use Rattle.enc_reader.specs.Source.{IsExhausted}
use Rattle.std.specs.Io.KnownBytes.{Consumes}
use Rattle.recode_engine.specs.declared.engine.RecodeFault.{RecodeFault}
use Rattle.recode_engine.specs.declared.engine.RecodeFault.TheVariants as fault
use Rattle.enc_writer.specs.Sink.{AppendsContents, BeginsWithBytes}
use Rattle.enc_writer.specs.EncodedText.{bytes_from_state}

-- A run that has reached the end of its source, by the bytes that the two sides model before and
-- after it.
pub record RunsToEnd (handling : BomHandling) (from to : Encoding)
    (remaining_before remaining_after : Option (List ℕ))
    (taken_before taken_after : Option (List ℕ)) (replaced : Bool) : Type 0 where
  -- the bytes read: all those of the source, which has none left, if it models them
  pub bytes : List ℕ
  pub all_read : IfSome remaining_before (λ all. bytes ≡ all)
  pub none_left : IfSome remaining_before (λ _. remaining_after ≡ Some [])
  -- whether a sequence or a character was replaced
  pub flag : replaced ≡ any_replaced handling from to bytes
  -- the sink has taken exactly the bytes of their text
  pub written : AppendsContents taken_before taken_after (recoded_bytes handling from to bytes)

-- A run that a fault has stopped.
pub record RunsToFault (handling : BomHandling) (from to : Encoding)
    (remaining_before remaining_after : Option (List ℕ))
    (taken_before taken_after : Option (List ℕ)) : Type 0 where
  -- the bytes that the source gave during the run
  pub bytes : List ℕ
  pub given : Consumes remaining_before remaining_after bytes
  -- whether the run has seen the end of the source, which has no more bytes then
  pub ended : Bool
  pub none_left : ended ≡ true → IsExhausted remaining_after
  -- The sink has taken a prefix of the bytes of their text, whatever bytes follow them. Nothing
  -- follows them if the source was at its end.
  pub wrote : List ℕ
  pub written : AppendsContents taken_before taken_after wrote
  pub prefix : (z : List ℕ) → (ended ≡ true → z ≡ [])
      → BeginsWithBytes (recoded_bytes handling from to (bytes ++ z)) wrote

-- A run whose source has failed: all text that the bytes given determine is written.
pub record WritesDetermined (handling : BomHandling) (from to : Encoding)
    (remaining_before remaining_after : Option (List ℕ))
    (taken_before taken_after : Option (List ℕ)) : Type 0 where
  -- the bytes that the source gave during the run
  pub bytes : List ℕ
  pub given : Consumes remaining_before remaining_after bytes
  -- the sequences that they determine, whatever bytes follow, and none more
  pub done : List Sequence
  pub determined : Determines (whole_sequences handling from) bytes done
  pub most : (next : Sequence)
      → Determines (whole_sequences handling from) bytes (done ++ next ∷ []) → ⊥
  -- Their text is written: whatever text follows it, its bytes are those that the sink has taken,
  -- and those of the text that follows.
  pub wrote : List ℕ
  pub written : AppendsContents taken_before taken_after wrote
  pub encoder : EncoderState
  pub encoding : encoder.encoding ≡ output_encoding_of to
  pub barred : encoder.barred ≡ []
  pub text : (z : List ℕ)
      → whole_bytes [] to (sequence_text done ++ z) ≡ wrote ++ bytes_from_state encoder z

-- A source or a sink: the bytes still to come or already taken, if it models them, and whether it
-- has failed.
pub record Side : Type 0 where
  pub bytes : Option (List ℕ)
  pub has_failed : Bool

-- a source or a sink with these bytes
abbrev pub side : Option (List ℕ) → Bool → Side
side bytes has_failed = record { bytes = bytes; has_failed = has_failed }

-- A run from a source to a sink, by both sides before and after it. What it says of failures holds
-- of sides that model no bytes too, except `read_fault`.
pub record IsRecodeRun (handling : BomHandling) (from to : Encoding)
    (source_before source_after sink_before sink_after : Side)
    (result : Result Bool RecodeFault) : Type 0 where
  -- `Ok`: the run has reached the end of the source. No side has failed that had not failed before.
  pub ok : IfOk result (RunsToEnd handling from to source_before.bytes source_after.bytes
      sink_before.bytes sink_after.bytes)
  pub source_kept : OnOk result (source_after.has_failed ≡ source_before.has_failed)
  pub sink_kept : OnOk result (sink_after.has_failed ≡ sink_before.has_failed)
  -- `Err`: the side that it names has failed; the source, if it models fewer than 2^62 bytes.
  pub err : OnErr result
      (RunsToFault handling from to source_before.bytes source_after.bytes sink_before.bytes
      sink_after.bytes)
  pub read_fault : IsErrOf result fault.Read
      → IfSome source_before.bytes (λ all. length all < 2 ^ 62 → source_after.has_failed ≡ true)
  pub write_fault : IsErrOf result fault.Write → sink_after.has_failed ≡ true
  -- If the source has failed in the run, nothing is withheld that its bytes determine.
  pub all_written : IsErrOf result fault.Read → source_before.has_failed ≡ false
      → source_after.has_failed ≡ true
      → WritesDetermined handling from to source_before.bytes source_after.bytes sink_before.bytes
      sink_after.bytes
  -- The side that it does not name has not failed in the run.
  pub read_alone : IsErrOf result fault.Read → sink_after.has_failed ≡ sink_before.has_failed
  pub write_alone : IsErrOf result fault.Write → source_after.has_failed ≡ source_before.has_failed
  -- A side that has failed before is named, the source first, and neither side changes.
  pub failed_source : source_before.has_failed ≡ true → IsErrOf result fault.Read
  pub failed_sink : source_before.has_failed ≡ false → sink_before.has_failed ≡ true
      → IsErrOf result fault.Write
  pub not_begun : (source_before.has_failed || sink_before.has_failed) ≡ true
      → (source_after ≡ source_before) × (sink_after ≡ sink_before)
