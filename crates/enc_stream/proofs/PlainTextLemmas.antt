-- A codec's call over a chunk, if no bytes of a byte order mark are held, as a call of the decoder.
use Rattle.std.proofs.Common.{◌≡◌, ℕ, true, false, List, [], ◌++◌, length, take}
use Rattle.std.proofs.Common.{drop, refl, ap, ◌∙◌, sym, arith, append-nil, subst, inl, inr, eqb, eqb-true}
use Rattle.std.proofs.lemmas.Bool.{eqb-false, false≢true}
use Rattle.enc_stream.specs.declared.encoding.Encoding.{Encoding}
use Rattle.enc_stream.specs.declared.life_cycle.LifeCycle.{LifeCycle}
use Rattle.enc_stream.specs.declared.life_cycle.LifeCycle.TheVariants.{ConvertingWithPendingBb, Converting, Finished}
use Rattle.enc_output.specs.declared.decoder_result.DecoderResult.{DecoderResult}
use Rattle.enc_output.specs.declared.decoder_result.DecoderResult.TheVariants.{InputEmpty, OutputFull, Malformed}
use Rattle.enc_decoder.specs.Sequence.{Sequence, sequence_bytes, set_after}
use Rattle.enc_decoder.specs.Segmentation.{Rule}
use Rattle.enc_decoder.specs.CodecState.{CodecState, remainder_of}
use Rattle.enc_decoder.specs.Call.{reaches_end, IsCallInto, IsCodecCall, shifted_result}
use Rattle.enc_decoder.specs.CallRecord.{CallInto}
use Rattle.enc_decoder.proofs.FirstSequenceLemmas.{true_or_false}
use Rattle.enc_stream.specs.LifeCycle.{awaits_mark, held_mark_bytes, has_ended}
use Rattle.enc_stream.specs.LifeCycle.{decoder_state_of, unread_bytes, HeldBytesMatchCodec}
use Rattle.enc_stream.specs.Decoding.{DecoderState, DecodesInto}
use Rattle.enc_stream.proofs.HeldMarkLemmas.{ends, stays, goes_on}
use Rattle.enc_stream.proofs.PendingBytesLemmas.{none_held_unread}
use Rattle.enc_stream.proofs.UnmarkedTextLemmas.{ReadsText, HeldRead}
use Rattle.enc_stream.proofs.RemainingRuleLemmas.{none_without_bytes}
use Rattle.enc_utf8.proofs.LengthLemmas.{lengths}

-- no held bytes shift no result
unshifted : (stop : DecoderResult) → shifted_result stop 0 ≡ stop
unshifted InputEmpty = refl
unshifted OutputFull = refl
unshifted (Malformed l a) = ap (Malformed l) (omega arith)

-- A decoder that has not ended, holds nothing and awaits no byte order mark has one state.
converting : (life : LifeCycle) → awaits_mark life ≡ false → held_mark_bytes life ≡ []
    → has_ended life ≡ false
    → life ≡ Converting
converting Converting unawaited none_held going = refl
converting ConvertingWithPendingBb unawaited none_held going = absurd (let no : ⊥ = cc in no)
converting Finished unawaited none_held going = absurd (false≢true (sym going))
converting _ unawaited none_held going = absurd (false≢true (sym unawaited))

same_codec : (v w : CodecState) → w.rule ≡ v.rule → w.set ≡ v.set → w.pending ≡ v.pending → w ≡ v
same_codec v w rule set pending =
    let made : Rule → ℕ → List ℕ → CodecState = λ r s p.
    record { rule = r; set = s; pending = p } in
    let same : made w.rule w.set w.pending ≡ made v.rule v.set v.pending = cc in same

module _ {units_of : ℕ → List ℕ} {v w : CodecState} {c : CallInto}
    (called : IsCodecCall units_of v w c) where
  abbrev done : List Sequence
  done = called.call.call.call.done

  -- A call that reads nothing only moves pending bytes into sequences.
  all_pending : c.read ≡ 0 → v.pending ≡ sequence_bytes done ++ w.pending
  all_pending none_read = sym (append-nil v.pending)
      ∙ ap (λ k. v.pending ++ take k c.src) (sym none_read) ∙ called.call.call.accounted

  -- If as many are pending after it, the codec's state is the same.
  unchanged : c.read ≡ 0 → length w.pending ≡ length v.pending → w ≡ v
  unchanged none_read as_many =
      let accounted = all_pending none_read in
      let nothing : done ≡ [] =
      none_without_bytes v.rule v.set (v.pending ++ (c.src ++ [])) done
      ((remainder_of w).sequences (drop c.read c.src ++ []))
      (called.call.call.call.residual [] (λ _. refl))
      (omega (arith, lengths, ap length accounted, as_many)) in
      same_codec v w called.rule
      (called.call.call.call.set ∙ ap (set_after v.set) nothing)
      (sym (accounted ∙ ap (λ ss. sequence_bytes ss ++ w.pending) nothing))

  module _ {life : LifeCycle} (none_held : held_mark_bytes life ≡ [])
      (holds : HeldBytesMatchCodec life v) where
    -- While a byte order mark may come, nothing is pending.
    unchanged_at_start : c.read ≡ 0 → awaits_mark life ≡ true → w ≡ v
    unchanged_at_start none_read awaits = unchanged none_read (omega (
      arith,
      lengths,
      ap length (all_pending none_read),
      ap length (holds.unread awaits).1,
    ))

    pub plain_holds : c.read ≡ 0 → HeldBytesMatchCodec life w
    plain_holds none_read = record {
      unread = λ awaits. rw (unchanged_at_start none_read awaits) (holds.unread awaits);
      held = rw (none_held_unread life (length w.pending) none_held, none_held)
          (sym (append-nil w.pending));
    }

    module _ {e : Encoding} (text : ReadsText e life v c.src c.last) where
      abbrev held : List ℕ
      held = unread_bytes life (length v.pending)

      none : held ≡ []
      none = none_held_unread life (length v.pending) none_held

      abbrev reads : HeldRead held c.src
      reads = record {
        total = c.read;
        left = 0;
        read = c.read;
        within = omega (arith, called.call.call.call.within);
        left_is = omega (arith, ap length none);
        read_is = omega (arith, ap length none);
      }

      abbrev IsMadeOver : List ℕ → Type 0
      IsMadeOver bytes = IsCallInto units_of (remainder_of v) (remainder_of w)
          (record c { src = bytes ++ c.src })

      made : IsMadeOver held
      made = subst IsMadeOver (sym none) called.call

      abbrev Leaves : DecoderState → DecoderResult → Type 0
      Leaves new result = DecodesInto units_of (decoder_state_of e life v) new
          (record c { result = result })

      as_made : {new : DecoderState} → Leaves new (shifted_result c.result 0) → Leaves new c.result
      as_made {new} leaves = subst (Leaves new) (unshifted c.result) leaves

      -- At the end of the input.
      pub plain_ends : reaches_end c.last c.result ≡ true
          → Leaves (decoder_state_of e Finished w) c.result
      plain_ends at_end_now = as_made (ends text reads called.rule made at_end_now)

      -- Text goes on.
      pub plain_goes_on : reaches_end c.last c.result ≡ false
          → (c.read ≡ 0 → length w.pending ≡ length v.pending → ⊥)
          → Leaves (decoder_state_of e Converting w) c.result
      plain_goes_on not_ended touched = as_made (goes_on text reads called.rule made not_ended
          (λ none_read as_many. touched none_read (omega (arith, as_many, ap length none)))
          (λ none_read two one. omega (arith, two, ap length none)))

      -- None of the chunk is read.
      pub plain_stays : reaches_end c.last c.result ≡ false → c.read ≡ 0
          → Leaves (decoder_state_of e life w) c.result
      plain_stays not_ended none_read =
          elim (true_or_false (eqb (length w.pending) (length v.pending))) [
            | inl same ↦ let as_many = eqb-true (length w.pending) (length v.pending) same in
                subst (λ x. Leaves (decoder_state_of e life x) c.result)
                (sym (unchanged none_read as_many))
                (as_made (stays text reads called.rule made not_ended none_read
                (omega (arith, as_many, ap length none))))
            | inr differ ↦
                let fewer = eqb-false (length w.pending) (length v.pending) differ in
                elim (true_or_false (awaits_mark life)) [
                  | inl awaits ↦ absurd (fewer
                      (ap (λ (x : CodecState). length x.pending)
                      (unchanged_at_start none_read awaits)))
                  | inr unawaited ↦ subst (λ l. Leaves (decoder_state_of e l w) c.result)
                      (sym (converting life unawaited none_held text.going))
                      (plain_goes_on not_ended (λ _. fewer))
                ]
          ]
