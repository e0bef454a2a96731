-- The call that ends with bytes that are skipped.
use Rattle.std.proofs.Common.{◌≡◌, ℕ, true, false, List, [], ◌++◌, length, take, drop, refl, ap, ◌∙◌, sym, arith}
use Rattle.std.proofs.Common.{append-nil, subst}
use Rattle.std.proofs.Math.ListN.{drop_of_length-le}
use Rattle.std.proofs.Math.Seq.{take-length}
use Rattle.std.proofs.lemmas.Bool.{false≢true}
use Rattle.enc_output.specs.declared.decoder_result.DecoderResult.TheVariants.{InputEmpty}
use Rattle.enc_utf8.specs.Text.{AreScalars, units_of_text}
use Rattle.enc_decoder.specs.Sequence.{sequence_bytes, set_after}
use Rattle.enc_decoder.specs.CodecState.{CodecState, remainder_of}
use Rattle.enc_decoder.specs.Taking.{SkipsEnd}
use Rattle.enc_decoder.specs.Call.{IsRawCall}
use Rattle.enc_decoder.proofs.SegmentationLemmas.{sequences_of-nil, all_bytes}
use Rattle.enc_decoder.proofs.StageLemmas.{Stage}
use Rattle.enc_decoder.proofs.StateLeavesLemmas.{unread}
use Rattle.enc_decoder.proofs.LeavesLemmas.{call_at}

-- At a stage, the unread bytes end the input and are skipped: they lead from the state v to w.
module _ {v w : CodecState} (stage : Stage) (skips : SkipsEnd v w (unread stage)) where
  none_pending : w.pending ≡ []
  none_pending = ap (λ (s : CodecState). s.pending) skips.next_state

  none_left : (remainder_of w).sequences [] ≡ []
  none_left = ap (λ (s : CodecState). (remainder_of s).sequences []) skips.next_state
      ∙ sequences_of-nil v.rule (set_after v.set skips.taken)

  ends_with : (y : List ℕ) → y ≡ [] → (remainder_of v).sequences (unread stage ++ y)
      ≡ skips.taken ++ (remainder_of w).sequences y
  ends_with y none =
      rw (none, append-nil (unread stage), skips.all, none_left, append-nil skips.taken) refl

  pub skipped_end : {units_of : ℕ → List ℕ} {room : ℕ} → stage.last ≡ true
      → IsRawCall units_of (remainder_of v) (remainder_of w)
      (call_at stage room InputEmpty (length (unread stage)) [] false)
  skipped_end {units_of} is_last =
      let rest = unread stage in
      let all_read : take (length rest) rest ≡ rest = take-length rest in
      let none_unread : drop (length rest) rest ≡ [] = drop_of_length-le rest (omega arith) in
      record {
        call = record {
          put = skips.taken;
          done = skips.taken;
          within = omega arith;
          residual = λ z ends. rw none_unread (ends_with z (ends is_last));
          set = ap (λ (s : CodecState). s.set) skips.next_state;
          text = ap (units_of_text units_of) (sym skips.no_text);
          scalars = subst AreScalars (sym skips.no_text) refl;
          fits = omega arith;
          flag = sym skips.none_malformed;
          none_replaced = λ _. refl;
          stops = record {
            only_put = refl;
            all_read = refl;
            none_determined = λ not_last. absurd (false≢true (sym not_last ∙ is_last));
            none_left = λ _. none_left;
            none_pending = λ _. none_pending;
          };
        };
        accounted = rw (all_read, none_pending, append-nil)
            (sym (all_bytes v.rule v.set (v.pending ++ rest)) ∙ ap sequence_bytes skips.all);
        goes_on = λ y ends _. rw all_read (ends_with y (ends is_last));
      }
