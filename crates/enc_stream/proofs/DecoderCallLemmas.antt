-- A call of a decoder as one record: the bytes of what it does, and those that it leaves.
use Rattle.std.proofs.Common.{◌≡◌, ℕ, ◌+◌, ◌<◌, ◌≤◌, true, List, length}
use Rattle.std.proofs.Common.{ap, ◌∙◌, sym, arith, subst}
use Rattle.enc_output.specs.declared.decoder_result.DecoderResult.{DecoderResult}
use Rattle.enc_output.specs.declared.decoder_result.DecoderResult.TheVariants.{InputEmpty, OutputFull, Malformed}
use Rattle.enc_decoder.specs.Sequence.{sequence_bytes}
use Rattle.enc_stream.specs.Decoding.{DecoderState}
use Rattle.enc_stream.specs.Decoding.{DecodesChunk}
use Rattle.std.proofs.lemmas.Bool.{true≢false}
use Rattle.enc_decoder.specs.Call.{is_replacement_mode}
use Rattle.enc_decoder.specs.CallRecord.{Call}
use Rattle.enc_stream.specs.Decoding.{LeavesFewerBytes, ReportsBytesSoFar}
use Rattle.enc_decoder.proofs.SequenceLemmas.{sequence_bytes-one}
use Rattle.enc_utf8.proofs.LengthLemmas.{lengths}

module _ {units_of : ℕ → List ℕ} {old new : DecoderState} (c : Call)
    (decodes : DecodesChunk units_of old new c) where
  -- The bytes pending and read are those done, and those pending then.
  pub bytes_done : length (sequence_bytes decodes.call.done) + length new.pending
      ≤ length old.pending + c.read
  bytes_done = omega (arith, lengths, ap length decodes.accounted)

  pub fewer_left : 0 < length (sequence_bytes decodes.call.done)
      → LeavesFewerBytes old new c.src c.read
  fewer_left some = omega (arith, some, bytes_done, decodes.call.within)

  -- The bytes pending then are among those pending before and those read.
  pub pending_so_far : length new.pending ≤ length old.pending + c.read
  pending_so_far = omega (arith, bytes_done)

  -- a call that replaces has put out all that it has done
  pub only_put : is_replacement_mode c.mode ≡ true → decodes.call.put ≡ decodes.call.done
  only_put replaces = by_result c.result decodes
    where
      by_result : (result : DecoderResult)
          (made : DecodesChunk units_of old new (record c { result = result }))
          → made.call.put ≡ made.call.done
      by_result InputEmpty made = sym made.call.stops.only_put
      by_result OutputFull made = sym made.call.stops.only_put
      by_result (Malformed l a) made =
          absurd (true≢false (sym replaces ∙ made.call.stops.not_replaced))

-- So are those of a sequence that is reported: it is the last of those done, and the bytes pending
-- then are all that follow it.
reported_bytes : {units_of : ℕ → List ℕ} {old new : DecoderState} (c : Call) (l a : ℕ)
    → DecodesChunk units_of old new (record c { result = Malformed l a })
    → l + a ≤ length old.pending + c.read
reported_bytes c l a decodes =
    let stops = decodes.call.stops in
    omega (
      arith,
      bytes_done (record c { result = Malformed l a }) decodes,
      stops.len,
      stops.pending,
      ap (λ ss. length (sequence_bytes ss)) stops.then_next,
      ap length (sequence_bytes-one decodes.call.put stops.next),
      lengths,
    )

pub reported_so_far : {units_of : ℕ → List ℕ} {old new : DecoderState} (c : Call)
    → DecodesChunk units_of old new c → ReportsBytesSoFar old c.result c.read
reported_so_far {units_of} {old} {new} c decodes l a is_malformed =
    reported_bytes c l a
    (subst (λ r. DecodesChunk units_of old new (record c { result = r })) is_malformed decodes)
