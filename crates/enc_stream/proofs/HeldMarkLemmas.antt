-- A codec's call over the bytes held and the chunk, as a call of the decoder over the chunk.
use Rattle.std.proofs.Common.{◌≡◌, ℕ, ◌+◌, ◌<◌, ◌≤◌, Bool, true, false, List, [], ◌∷◌}
use Rattle.std.proofs.Common.{◌++◌, length, take, drop, refl, ap, ◌∙◌, sym, arith, append_assoc, inl, inr, ◌⊎◌, subst}
use Rattle.std.proofs.Common.{None}
use Rattle.std.proofs.lemmas.List.{append-nil, length-append}
use Rattle.std.proofs.Math.ListN.{drop_of_length-le}
use Rattle.std.proofs.Math.Seq.{take-length}
use Rattle.enc_stream.specs.declared.encoding.Encoding.{Encoding}
use Rattle.enc_stream.specs.declared.life_cycle.LifeCycle.{LifeCycle}
use Rattle.enc_stream.specs.declared.life_cycle.LifeCycle.TheVariants.{ConvertingWithPendingBb, Converting, Finished}
use Rattle.enc_output.specs.declared.decoder_result.DecoderResult.{DecoderResult}
use Rattle.enc_output.specs.declared.decoder_result.DecoderResult.TheVariants.{Malformed}
use Rattle.enc_output.specs.Output.{Output}
use Rattle.enc_decoder.specs.Sequence.{Sequence, sequence_bytes, set_after}
use Rattle.enc_decoder.specs.Segmentation.{Rule, sequences_of}
use Rattle.enc_decoder.specs.CodecState.{CodecState, remainder_of}
use Rattle.enc_decoder.specs.Remainder.{AreFirstSequences}
use Rattle.enc_decoder.specs.declared.error_mode.ErrorMode.{ErrorMode}
use Rattle.enc_decoder.specs.Call.{reaches_end}
use Rattle.enc_decoder.specs.Call.{IsCall, IsCallInto, shifted_result}
use Rattle.enc_decoder.specs.CallRecord.{Call, call_writing}
use Rattle.enc_stream.proofs.AfterMarkLemmas.{made_call}
use Rattle.enc_decoder.proofs.ByteLemmas.{bytes-append}
use Rattle.enc_decoder.proofs.FirstSequenceLemmas.{true_or_false}
use Rattle.enc_decoder.proofs.StageLemmas.{nothing_written}
use Rattle.enc_decoder.proofs.InnerInputLemmas.{MatchesRead, most_or_more}
use Rattle.enc_decoder.proofs.JoinedCallLemmas.{no_bytes}
use Rattle.enc_decoder.proofs.InnerCallLemmas.{MatchesState, AreAllRead, reports_escape, call_outside}
use Rattle.enc_stream.specs.Encodings.{rule_of}
use Rattle.enc_stream.specs.Bom.{find_mark, marks_begun}
use Rattle.enc_stream.specs.LifeCycle.{marks_of, awaits_mark, held_mark_bytes, holds_bytes, has_ended}
use Rattle.enc_stream.specs.LifeCycle.{held_or_pending_bytes, decoder_state_of, unread_bytes}
use Rattle.enc_stream.specs.Decoding.{DecoderState, remaining_sequences, decoder_remainder, marks_after}
use Rattle.enc_stream.specs.Decoding.{are_still_held, held_after}
use Rattle.enc_stream.specs.Decoding.{DecodesInto}
use Rattle.enc_stream.proofs.BegunMarkLemmas.{none_once_done, none_of, held_by, not_begun_any}
use Rattle.enc_stream.proofs.EndOfInputLemmas.{end_placed, at_end, not_at_end}
use Rattle.enc_stream.proofs.LifeCycleLemmas.{none_awaited, holds_marks}
use Rattle.enc_stream.proofs.PendingBytesLemmas.{few_unread, bytes_unread, held_or_pending, pending_if_held}
use Rattle.enc_stream.proofs.PendingBbLemmas.{LeavesBb, leaves_bb, none_of_held}
use Rattle.enc_stream.proofs.UnmarkedTextLemmas.{ReadsText, HeldRead, settled_from, awaited_unless_settled}
use Rattle.enc_stream.proofs.UnmarkedTextLemmas.{read_within, taken_all, dropped_all}
use Rattle.enc_stream.proofs.UnmarkedTextLemmas.{shifts, reads_on, unmarked_read, pending_in_front, text_goes_on}
use Rattle.enc_stream.proofs.UnmarkedTextLemmas.{length_at_hand, begun_no_more, by_codec, unmarked_all, at_hand}
use Rattle.enc_utf8.proofs.LengthLemmas.{lengths}
use Rattle.enc_stream.proofs.RemainingRuleLemmas.{none_without_bytes}

module _ {e : Encoding} {life : LifeCycle} {v : CodecState} {src : List ℕ} {last : Bool}
    (text : ReadsText e life v src last)
    (reads : HeldRead (unread_bytes life (length v.pending)) src) where
  abbrev held : List ℕ
  held = unread_bytes life (length v.pending)

  abbrev pending : List ℕ
  pending = held_or_pending_bytes (held_mark_bytes life) v.pending

  abbrev total : ℕ
  total = reads.total

  abbrev left : ℕ
  left = reads.left

  abbrev read : ℕ
  read = reads.read

  module _ {units_of : ℕ → List ℕ} {w : CodecState} {mode : ErrorMode} {before after : Output}
      {stop : DecoderResult} {replaced : Bool} (kept : w.rule ≡ v.rule)
      (made : IsCallInto units_of (remainder_of v) (remainder_of w)
      (made_call (held ++ src) last mode before after stop total replaced)) where
    -- the call of the codec, what it does, and the bytes pending with those read
    abbrev call : Call
    call = call_writing (made_call (held ++ src) last mode before after stop total replaced)
        made.wrote

    abbrev does : IsCall units_of (remainder_of v) (remainder_of w) call
    does = made.call.call

    abbrev done : List Sequence
    done = does.done

    abbrev bytes_read : List ℕ
    bytes_read = pending ++ take read src

    -- a call of the decoder with this state after it
    abbrev Leaves : DecoderState → Type 0
    Leaves new = DecodesInto units_of (decoder_state_of e life v) new
        (made_call src last mode before after (shifted_result stop left) read replaced)

    -- how many bytes are done
    done_len : length v.pending + total ≡ length (sequence_bytes done) + length w.pending
    done_len = omega (arith, lengths, ap length made.call.accounted, reads.within)

    -- nothing is done where no byte is
    none_done : length (sequence_bytes done) ≡ 0 → done ≡ []
    none_done = none_without_bytes v.rule v.set (v.pending ++ ((held ++ src) ++ [])) done
        ((remainder_of w).sequences (drop total (held ++ src) ++ []))
        (does.residual [] (λ _. refl))

    -- and nothing is reported where nothing is done
    none_reported : done ≡ [] → (l a : ℕ) → stop ≡ Malformed l a → ⊥
    none_reported nothing l a is_malformed =
        let stops = rw is_malformed at does.stops in
        omega (
          arith,
          ap length (sym nothing ∙ stops.then_next),
          length-append does.put (stops.next ∷ []),
        )

    accounted_all : left ≡ 0 → bytes_read ≡ sequence_bytes done ++ w.pending
    accounted_all none_left =
        at_hand text (take read src) ∙ ap (λ x. v.pending ++ x) (sym (taken_all reads none_left))
        ∙ made.call.accounted

    -- unless it is settled that no mark comes, few bytes are read
    escape : (reports_escape call does ≡ true → settled_from life ≤ read)
        ⊎ ((total ≤ 5) × AreAllRead (remainder_of v) (remainder_of w) call done)
    escape = elim (most_or_more (settled_from life) read) [
      | inl settled ↦ inl (λ _. settled)
      | inr unsettled ↦ let awaited = awaited_unless_settled life read unsettled in
          inr (
            omega (arith, few_unread life (length v.pending), awaited.0),
            ((text.holds.unread awaited.1).1, made.call.accounted),
          )
    ]

    -- the decoder before the call
    abbrev old : DecoderState
    old = decoder_state_of e life v

    -- The sequences of a state after the bytes read are those left once those done come first.
    abbrev GoesOn : DecoderState → Type 0
    GoesOn new = (y : List ℕ) → (reaches_end last stop ≡ true → y ≡ [])
        → AreFirstSequences done (remaining_sequences old (take read src ++ y))
        → remaining_sequences old (take read src ++ y) ≡ done ++ remaining_sequences new y

    -- whether the bytes that are left pending are held
    abbrev still_held : Bool
    still_held = are_still_held (holds_bytes (held_mark_bytes life)) (marks_of life) bytes_read read

    -- the decoder's call, by its state after it
    into : (next : LifeCycle) (state : CodecState)
        → MatchesState (shifts text call) does
        (decoder_remainder (decoder_state_of e next state)) read left
        → bytes_read ≡ sequence_bytes done ++ (decoder_state_of e next state).pending
        → (((z : List ℕ) → (last ≡ true → z ≡ []) → remaining_sequences old (src ++ z)
        ≡ done ++ remaining_sequences (decoder_state_of e next state) (drop read src ++ z))
        → GoesOn (decoder_state_of e next state))
        → marks_of next ≡ marks_after (marks_of life) (reaches_end last stop) done
        (decoder_state_of e next state).pending
        → holds_bytes (held_mark_bytes next)
        ≡ held_after still_held (decoder_state_of e next state).pending
        → has_ended next ≡ reaches_end last stop
        → Leaves (decoder_state_of e next state)
    into next state matches all_accounted goes_on next_marks next_held next_ended =
        let none : find_mark (marks_of life) bytes_read ≡ None =
        unmarked_read text read (read_within reads) in
        let called =
        call_outside
        (bytes-append held src (bytes_unread life (length v.pending)) text.bytes)
        (shifts text call) nothing_written
        (record { room = omega arith; mode = refl })
        (subst (MatchesRead (shifts text call)) (sym reads.read_is)
        (reads_on text call reads.within refl)) does matches in
        let placed = end_placed last stop left in
        record {
          wrote = made.wrote;
          onto = made.onto;
          decodes = record {
            call = called.0;
            accounted = rw called.1 all_accounted;
            goes_on = rw (called.1, placed) (goes_on (rw called.1 at called.0.residual));
            mark = rw none (called.0.done, refl);
            encoding = rw none refl;
            marks = rw (called.1, placed) next_marks;
            held = next_held;
            finished = rw placed next_ended;
          };
        }

    -- At the end of the input.
    pub ends : reaches_end last stop ≡ true → Leaves (decoder_state_of e Finished w)
    ends at_end_now =
        let is_last : last ≡ true = (at_end last stop at_end_now).0 in
        let stops = rw (at_end last stop at_end_now).1 at does.stops in
        let none_left : left ≡ 0 =
        omega (arith, lengths, stops.all_read) in
        let whole : take read src ≡ src =
        ap (λ k. take k src)
        (let all_read : read ≡ length src =
        omega (arith, lengths, stops.all_read) in all_read)
        ∙ take-length src in
        let none_pending : w.pending ≡ [] = stops.none_pending is_last in
        into Finished w (record {
          after =
              λ z nothing. ap (remainder_of w).sequences
              (ap (λ x. x ++ z) (drop_of_length-le (held ++ src) (omega (arith, stops.all_read)))
              ∙ nothing is_last) ∙ stops.none_left is_last;
          set = does.set;
          pending = omega (arith, none_left);
          none_pending = λ last_one _. stops.none_pending last_one;
          same = inl refl;
          escape = escape;
          held = λ l a _. inl none_left;
        }) (accounted_all none_left)
        (λ residual y ends first. ap (λ z. remaining_sequences old (take read src ++ z))
        (ends at_end_now)
        ∙ ap (λ x. remaining_sequences old (x ++ [])) whole ∙ residual [] (λ _. refl))
        (rw at_end_now refl) (rw none_pending refl) (sym at_end_now)

    -- Nothing is done, and none of the chunk is read: all is as it was.
    pub stays : reaches_end last stop ≡ false → read ≡ 0
        → length w.pending + left ≡ length v.pending + length held
        → Leaves (decoder_state_of e life v)
    stays not_ended nothing_read untouched =
        let nothing : done ≡ [] =
        none_done (omega (arith, done_len, nothing_read, untouched)) in
        let none_read : bytes_read ≡ pending =
        ap (λ k. pending ++ take k src) nothing_read ∙ append-nil pending in
        let are_held = holds_marks e life v text.holds in
        into life v (record {
          after = λ y ends.
              sym (ap (λ d. d ++ (remainder_of w).sequences (drop total (held ++ src) ++ y))
              nothing)
              ∙ sym (does.residual y ends)
              ∙ ap (remainder_of v).sequences (append_assoc held src y)
              ∙ sym (by_codec text (src ++ y) (unmarked_all text y ends))
              ∙ ap (λ k. remaining_sequences (decoder_state_of e life v) (drop k src ++ y))
              (sym nothing_read);
          set = sym (ap (set_after v.set) nothing);
          pending = length_at_hand text ∙ sym untouched;
          none_pending = λ is_last is_empty.
              absurd (not_at_end last stop not_ended is_last is_empty);
          same = inr (inl nothing_read);
          escape = escape;
          held = λ l a is_malformed. absurd (none_reported nothing l a is_malformed);
        }) (rw (none_read, nothing) refl)
        (λ residual y ends first. ap (λ k. remaining_sequences old (take k src ++ y)) nothing_read
        ∙ ap (λ ss. ss ++ remaining_sequences old y) (sym nothing))
        (rw (not_ended, nothing) (sym are_held.begun))
        (rw (none_read, nothing_read) (sym are_held.held))
        (text.going ∙ sym not_ended)

    -- Text goes on.
    module _ (not_ended : reaches_end last stop ≡ false)
        (touched : read ≡ 0 → length w.pending + left ≡ length v.pending + length held → ⊥)
        (no_bb : read ≡ 0 → length held ≡ 2 → length w.pending + left ≡ 1 → ⊥) where
      none_left : left ≡ 0
      none_left = elim (most_or_more (length held) total) [
        | inl past ↦ omega (arith, past)
        | inr within_held ↦
            let none_read : read ≡ 0 = omega (arith, within_held) in
            elim (most_or_more left 0) [
              | inl none ↦ omega (arith, none)
              | inr some ↦ absurd (too_few none_read some)
            ]
      ]
        where
          too_few : read ≡ 0 → 0 < left → ⊥
          too_few none_read some_left =
              let all_done = done_len in
              let at_most_two = few_unread life (length v.pending) in
              elim (held_or_pending life (length v.pending)) [
                | inl none_held ↦ omega arith
                | inr none_pending ↦ elim (most_or_more (length (sequence_bytes done)) 0) [
                  | inl no_byte ↦ touched none_read (omega arith)
                  | inr some_bytes ↦ no_bb none_read (omega arith) (omega arith)
                ]
              ]

      some_done : read ≡ 0 → done ≡ [] → ⊥
      some_done nothing_read nothing =
          let no_byte = ap (λ ss. length (sequence_bytes ss)) nothing in
          touched nothing_read (omega (arith, no_byte, done_len, none_left, nothing_read))

      -- no byte order mark may come
      none_awaited_now : (ss : List Sequence) → ss ≡ done
          → marks_after (marks_of life) false ss w.pending ≡ []
      none_awaited_now (s ∷ ss) is_done = refl
      none_awaited_now [] is_done = elim (true_or_false (awaits_mark life)) [
        | inr none ↦ ap (λ ms. marks_begun ms w.pending) (none_awaited life none)
        | inl awaits ↦
            let some_read : 0 < read = elim (most_or_more read 0) [
              | inl none ↦ absurd (some_done (omega (arith, none)) (sym is_done))
              | inr some ↦ some
            ] in
            ap (marks_begun (marks_of life))
            (ap (λ ts. sequence_bytes ts ++ w.pending) is_done ∙ sym (accounted_all none_left))
            ∙ begun_no_more text read some_read (read_within reads) awaits
      ]

      -- nor is a byte held: if none is read, and bytes were held, none is left pending
      none_pending_now : read ≡ 0 → pending ≡ held_mark_bytes life → w.pending ≡ []
      none_pending_now nothing_read are_held =
          let some_bytes : 0 < length (sequence_bytes done) =
          elim (most_or_more (length (sequence_bytes done)) 0) [
            | inl no_byte ↦ absurd (some_done nothing_read (none_done (omega (arith, no_byte))))
            | inr some ↦ some
          ] in
          no_bytes w.pending (none_of_held life v text.holds (length w.pending)
          (omega (
            arith,
            some_bytes,
            done_len,
            length_at_hand text,
            none_left,
            ap length are_held,
            nothing_read,
          )) (λ two one. no_bb nothing_read two (omega (arith, one, none_left))))

      none_held_now : held_after still_held w.pending ≡ false
      none_held_now = elim (true_or_false (awaits_mark life)) [
        | inr none ↦ rw (none_awaited life none)
            (held_by (holds_bytes (held_mark_bytes life)) read w.pending (λ holds nothing_read.
            none_pending_now nothing_read
            (pending_if_held (held_mark_bytes life) v.pending holds)))
        | inl awaits ↦ elim (most_or_more read 0) [
          | inl none_read ↦ rw (none_pending_now (omega (arith, none_read))
              (pending_in_front text awaits)) refl
          | inr some_read ↦ rw (not_begun_any (marks_of life) _ bytes_read read
              (begun_no_more text read some_read (read_within reads) awaits) some_read)
              (none_of w.pending)
        ]
      ]

      pub goes_on : Leaves (decoder_state_of e Converting w)
      goes_on =
          into Converting w (record {
            after = λ y _.
                ap (λ x. (remainder_of w).sequences (x ++ y)) (dropped_all reads none_left)
                ∙ ap (λ (q : Rule). sequences_of q w.set (w.pending ++ (drop read src ++ y)))
                (kept ∙ sym text.same_rule);
            set = does.set;
            pending = omega (arith, none_left);
            none_pending = λ is_last is_empty.
                absurd (not_at_end last stop not_ended is_last is_empty);
            same = inl refl;
            escape = escape;
            held = λ l a _. inl none_left;
          }) (accounted_all none_left)
          (λ _ y _. text_goes_on text (read_within reads) done (decoder_state_of e Converting w)
          some_done does.set (accounted_all none_left) (λ y. refl) y)
          (rw not_ended (sym (none_awaited_now done refl)))
          (sym none_held_now)
          (sym not_ended)

    -- BB stays after EF.
    pub stays_bb : reaches_end last stop ≡ false → read ≡ 0 → length held ≡ 2
        → length w.pending + left ≡ 1
        → Leaves (decoder_state_of e ConvertingWithPendingBb w)
    stays_bb not_ended nothing_read two one =
        let leaves : LeavesBb v w src done total life =
        leaves_bb made.call.accounted two (
          omega (arith, nothing_read, two, reads.read_is),
          omega (arith, nothing_read, two, one, reads.left_is, reads.read_is),
        ) in
        let all_read : bytes_read ≡ 0xEF ∷ 0xBB ∷ [] =
        ap (λ k. pending ++ take k src) nothing_read ∙ append-nil pending
        ∙ text.holds.held ∙ ap (λ x. x ++ held) leaves.none ∙ leaves.unread in
        let some : done ≡ [] → ⊥ =
        λ nothing. omega (
          arith,
          ap length leaves.done_bytes,
          ap (λ ss. length (sequence_bytes ss))
              nothing,
        ) in
        let accounted : bytes_read ≡ sequence_bytes done ++ 0xBB ∷ [] =
        rw (all_read, leaves.done_bytes) refl in
        into ConvertingWithPendingBb w (record {
          after = λ y _.
              ap (λ x. sequences_of w.rule w.set x)
              (sym (append_assoc w.pending (drop total (held ++ src)) y)
              ∙ ap (λ x. x ++ y) leaves.bb_left)
              ∙ ap (λ (q : Rule). sequences_of q w.set (0xBB ∷ (src ++ y)))
              (kept ∙ sym text.same_rule)
              ∙ ap (λ k. sequences_of (rule_of e) w.set (0xBB ∷ (drop k src ++ y)))
              (sym nothing_read);
          set = does.set;
          pending = sym one;
          none_pending = λ is_last is_empty.
              absurd (not_at_end last stop not_ended is_last is_empty);
          same = inr (inl nothing_read);
          escape = escape;
          held = λ l a _. elim (most_or_more left 0) [
            | inl none ↦ inl (omega (arith, none))
            | inr some_left ↦ inr (
              omega (arith, one, some_left),
              omega (arith, one, some_left, two, nothing_read),
              (leaves.none, made.call.accounted),
            )
          ];
        }) accounted
        (λ _ y _. text_goes_on text (read_within reads) done
        (decoder_state_of e ConvertingWithPendingBb w) (λ _. some) does.set accounted
        (λ y. refl) y)
        (rw not_ended (sym (none_once_done (marks_of life) done (0xBB ∷ []) some)))
        (rw (nothing_read, leaves.state) refl) (sym not_ended)
