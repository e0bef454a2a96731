-- Each call of a decoder takes it nearer to its end, or ends it.
use Rattle.std.proofs.Common.{◌≡◌, ℕ, ◌+◌, ◌-◌, ◌*◌, ◌<◌, ◌≤◌, ◌⊎◌, inl, inr, true, false, List}
use Rattle.std.proofs.Common.{length, ◌∙◌, sym, arith}
use Rattle.enc_output.specs.declared.decoder_result.DecoderResult.{DecoderResult}
use Rattle.enc_output.specs.declared.decoder_result.DecoderResult.TheVariants.{InputEmpty, OutputFull, Malformed}
use Rattle.enc_stream.specs.Decoding.{DecoderState, has_finished, TakesSmallTexts}
use Rattle.enc_stream.proofs.EndOfInputLemmas.{at_end}
use Rattle.enc_decoder.specs.CallRecord.{Call}
use Rattle.enc_decoder.proofs.FirstSequenceLemmas.{true_or_false}
use Rattle.enc_stream.proofs.DecoderCallLemmas.{bytes_done}
use Rattle.enc_stream.specs.Decoding.{DecodesChunk}
use Rattle.enc_stream.proofs.OutputFullLemmas.{less_left}

-- a call that came to the end has read everything
pub ends_read : {units_of : ℕ → List ℕ} {old new : DecoderState} (c : Call)
    → DecodesChunk units_of old new c → has_finished new ≡ true
    → (c.last ≡ true) × (c.read ≡ length c.src)
ends_read c decodes finished =
    let ends = at_end c.last c.result (sym decodes.finished ∙ finished) in
    let at_empty = rw ends.1 at decodes in (ends.0, at_empty.call.stops.all_read)

-- Bytes unread count twice, and those pending once: where a call doesn't end the input, fewer are
-- left.
pub nearer : {units_of : ℕ → List ℕ} {least : ℕ} → TakesSmallTexts units_of least
    → {old new : DecoderState} (c : Call) → least ≤ c.room → DecodesChunk units_of old new c
    → (c.last ≡ false → 1 ≤ length c.src) → (has_finished new ≡ true)
    ⊎ (2 * (length c.src - c.read) + length new.pending < 2 * length c.src + length old.pending)
nearer {units_of} takes {old} {new} c roomy decodes some = by_result c.result decodes
  where
    by_result : (result : DecoderResult)
        → DecodesChunk units_of old new (record c { result = result })
        → (has_finished new ≡ true)
        ⊎ (2 * (length c.src - c.read) + length new.pending < 2 * length c.src + length old.pending)
    by_result InputEmpty made = elim (true_or_false c.last) [
      | inl is_last ↦ inl (made.finished ∙ is_last)
      | inr more ↦ inr (omega (
        arith,
        some more,
        made.call.stops.all_read,
        bytes_done (record c { result = InputEmpty }) made,
      ))
    ]
    by_result OutputFull made =
        inr (omega (arith, made.call.within, less_left takes c roomy OutputFull made (λ e. cc)))
    by_result (Malformed l a) made =
        let fewer = less_left takes c roomy (Malformed l a) made (λ e. cc) in
        inr (omega (arith, made.call.within, fewer))
