-- A call of an inner decoder is a call of an outer one, whose chunk is shifted.
use Rattle.enc_decoder.specs.declared.byte_codec.Kind.TheVariants.{Valid, Skipped, RepeatedEscape}
use Rattle.std.proofs.Common.{◌≡◌, ℕ, ◌+◌, ◌-◌, ◌<◌, ◌≤◌, Bool, true, false, List, [], ◌∷◌, ◌++◌, length, take, drop}
use Rattle.std.proofs.Common.{refl, ap, ◌∙◌, sym, arith, append_assoc, inl, inr, subst, ◌⊎◌}
use Rattle.std.proofs.lemmas.Bool.{false≢true}
use Rattle.std.proofs.lemmas.List.{length-append}
use Rattle.std.proofs.Math.ListN.{drop_of_length-le, length-take}
use Rattle.enc_decoder.specs.declared.byte_codec.Kind.{Kind}
use Rattle.enc_decoder.specs.declared.byte_codec.Kind.TheVariants as kind
use Rattle.enc_output.specs.declared.decoder_result.DecoderResult.{DecoderResult}
use Rattle.enc_output.specs.declared.decoder_result.DecoderResult.TheVariants.{InputEmpty, OutputFull, Malformed}
use Rattle.enc_decoder.specs.Sequence.{Sequence, sequence_bytes, is_repeated_escape, set_after, is_malformed}
use Rattle.enc_decoder.specs.Remainder.{Remainder, AreBytes, AreFirstSequences, Determines, AreDetermined}
use Rattle.enc_decoder.specs.Call.{IsCall, DecoderStops, AreReportedLens, ReadsToReported, AtMalformed}
use Rattle.enc_decoder.specs.Call.{shifted_result, is_replacement_mode}
use Rattle.enc_decoder.specs.CallRecord.{Call}
use Rattle.enc_decoder.proofs.SequenceLemmas.{sequence_bytes-one}
use Rattle.enc_decoder.proofs.DeterminedLemmas.{begins_after}
use Rattle.enc_decoder.proofs.StageLemmas.{Stage, HasWritten, IsPartAt, call_from, stage_after, written_on, length_on}
use Rattle.enc_decoder.proofs.InnerInputLemmas.{ShiftsInput, MatchesRead, HasSequence, sequence_at_end, most_or_more}
use Rattle.enc_decoder.proofs.InnerInputLemmas.{determines_outside, determines_inside, none_before, determined_outside}
use Rattle.enc_decoder.proofs.InnerInputLemmas.{none_shown, none_after_shown, shown_next, reads_all}

-- whether a call that stops so reports a repeated escape
abbrev pub stops_at_escape : (units_of : ℕ → List ℕ) (old new : Remainder) (c : Call)
    (put done : List Sequence) (result : DecoderResult)
    → DecoderStops units_of old new c put done result → Bool
stops_at_escape units_of old new c put done InputEmpty stops = false
stops_at_escape units_of old new c put done OutputFull stops = false
stops_at_escape units_of old new c put done (Malformed l a) stops =
    is_repeated_escape stops.next.kind

abbrev pub reports_escape : {units_of : ℕ → List ℕ} {old new : Remainder} (c : Call)
    → IsCall units_of old new c → Bool
reports_escape {units_of} {old} {new} c call =
    stops_at_escape units_of old new c call.put call.done c.result call.stops

-- A sequence that is reported, and the bytes pending after it, are among those pending and read.
pub reported_within : {old new : Remainder} {c : Call} {l a : ℕ} {put done : List Sequence}
    → AtMalformed old new c put done l a
    → old.pending ++ take c.read c.src ≡ sequence_bytes done ++ new.pending
    → l + length new.pending ≤ length old.pending + c.read
reported_within {old} {new} {c} {put = put} {done} stops accounted = omega (
  arith,
  ap length accounted,
  length-append old.pending (take c.read c.src),
  length-take c.read c.src,
  length-append (sequence_bytes done) new.pending,
  ap length (ap sequence_bytes stops.then_next ∙ sequence_bytes-one put stops.next),
  length-append (sequence_bytes put) stops.next.bytes,
  stops.len,
)

-- No byte is pending before the inner call, which reads those of what it does and holds.
abbrev pub AreAllRead : Remainder → Remainder → Call → List Sequence → Type 0
AreAllRead mid then inner done = (mid.pending ≡ [])
    × (mid.pending ++ take inner.read inner.src ≡ sequence_bytes done ++ then.pending)

-- What the outer one is after the call, by what the inner one is, with `left` held bytes left. If a
-- repeated escape is reported, its bytes are read, or else fewer than it has. If any malformed
-- sequence is, at most one held byte is left.
pub record MatchesState {units_of : ℕ → List ℕ} {old mid then : Remainder} {stage : Stage}
    {inner : Call} (shift : ShiftsInput old mid stage inner) (call : IsCall units_of mid then inner)
    (new : Remainder) (read left : ℕ) : Type 0 where
  pub after : (z : List ℕ) → (inner.last ≡ true → z ≡ [])
      → then.sequences (drop inner.read inner.src ++ z) ≡ new.sequences (drop read stage.src ++ z)
  pub set : new.set ≡ set_after old.set (stage.done ++ call.done)
  pub pending : length new.pending ≡ length then.pending + left
  pub none_pending : inner.last ≡ true → inner.result ≡ InputEmpty → new.pending ≡ []
  pub same : (new.pending ≡ then.pending) ⊎ ((read ≡ 0) ⊎ (read < shift.below))
  pub escape : (reports_escape inner call ≡ true → shift.sure ≤ read)
      ⊎ ((inner.read ≤ 5) × AreAllRead mid then inner call.done)
  pub held : (l a : ℕ) → inner.result ≡ Malformed l a → (left ≡ 0)
      ⊎ ((left ≡ 1) × (inner.read ≡ 1) × AreAllRead mid then inner call.done)

-- a sequence of one byte, and one byte more after it
one_and_one : (k : Kind) (l a left : ℕ) → l ≡ 1 → a ≡ 0 → left ≡ 1 → AreReportedLens k l a
    → AreReportedLens k l (a + left)
one_and_one kind.Valid l a left one none also lens = (omega arith, omega arith, omega arith)
one_and_one kind.Skipped l a left one none also lens = (omega arith, omega arith, omega arith)
one_and_one kind.Malformed l a left one none also lens = (omega arith, omega arith, omega arith)
one_and_one kind.RepeatedEscape l a left one none also lens = absurd (omega (arith, lens.0))

is_six : (k : Kind) (l a : ℕ) → is_repeated_escape k ≡ true → AreReportedLens k l a → l + a ≡ 6
is_six kind.Valid l a is_repeated lens = absurd (false≢true is_repeated)
is_six kind.Skipped l a is_repeated lens = absurd (false≢true is_repeated)
is_six kind.Malformed l a is_repeated lens = absurd (false≢true is_repeated)
is_six kind.RepeatedEscape l a is_repeated lens = omega (arith, lens.0, lens.1)

module _ {units_of : ℕ → List ℕ} {old mid : Remainder} {stage : Stage} {inner : Call}
    (bytes : AreBytes inner.src) (shift : ShiftsInput old mid stage inner)
    (written : HasWritten units_of stage) (part : IsPartAt stage inner) where
  module _ {then new : Remainder} {read left : ℕ} (reads : MatchesRead shift read)
      (call : IsCall units_of mid then inner) (state : MatchesState shift call new read left) where
    -- the call of the outer decoder stops as the inner one does
    abbrev InnerStops : DecoderResult → Type 0
    InnerStops result = DecoderStops units_of mid then inner call.put call.done result

    abbrev outer : Call
    outer = call_from stage inner.last (shifted_result inner.result left) read inner.wrote
        inner.replaced

    abbrev OuterStops : DecoderResult → Type 0
    OuterStops result = DecoderStops units_of old new outer (stage.done ++ call.put)
        (stage.done ++ call.done) result

    -- a repeated escape has all its bytes read, or fewer than it has
    abbrev EscapeRead : Bool → Type 0
    EscapeRead is_escape = (is_escape ≡ true → shift.sure ≤ read)
        ⊎ ((inner.read ≤ 5) × AreAllRead mid then inner call.done)

    regrouped : (P : List Sequence → Type 0) (s : Sequence)
        → P (stage.done ++ (call.done ++ s ∷ [])) → P ((stage.done ++ call.done) ++ s ∷ [])
    regrouped P s = subst P (sym (append_assoc stage.done call.done (s ∷ [])))

    stops_empty : inner.result ≡ InputEmpty → InnerStops InputEmpty → OuterStops InputEmpty
    stops_empty is_empty stops = record {
      only_put = ap (λ x. stage.done ++ x) stops.only_put;
      all_read = reads_all shift reads stops.all_read;
      none_determined = λ not_last s determines. stops.none_determined not_last s (λ z are_bytes.
          begins_after stage.done (call.done ++ s ∷ []) (mid.sequences (inner.src ++ z))
          (old.sequences (stage.src ++ z))
          (shift.plain z (λ is_last. absurd (false≢true (sym not_last ∙ is_last))))
          (subst (λ x. AreFirstSequences x (old.sequences (stage.src ++ z)))
          (append_assoc stage.done call.done (s ∷ [])) (determines z are_bytes)));
      none_left = λ is_last.
          ap (λ x. new.sequences (x ++ []))
          (sym (drop_of_length-le stage.src
          (omega (arith, reads_all shift reads stops.all_read))))
          ∙ sym (state.after [] (λ _. refl))
          ∙ ap (λ x. then.sequences (x ++ []))
          (drop_of_length-le inner.src (omega (arith, stops.all_read)))
          ∙ stops.none_left is_last;
      none_pending = λ is_last. state.none_pending is_last is_empty;
    }

    stops_full : InnerStops OutputFull → OuterStops OutputFull
    stops_full stops = record {
      only_put = ap (λ x. stage.done ++ x) stops.only_put;
      next = stops.next;
      determined = regrouped (AreDetermined inner.last old.sequences stage.src) stops.next
          (determined_outside shift (call.done ++ stops.next ∷ []) stops.determined);
      not_reported = λ is_fatal.
          stops.not_reported (ap is_replacement_mode part.mode ∙ is_fatal);
      full = omega (
        arith,
        length_on written call.done,
        stops.full,
        written.fits,
        part.room,
      );
      reads = record {
        not_shown = regrouped (λ x. (read ≡ 0)
            ⊎ (Determines old.sequences (take read stage.src) x → ⊥)) stops.next
            (none_shown shift reads (call.done ++ stops.next ∷ [])
            (sequence_at_end call.done stops.next) stops.reads.not_shown);
        shown_next = λ unread. regrouped (Determines old.sequences (take (read + 1) stage.src))
            stops.next (shown_next shift reads bytes (call.done ++ stops.next ∷ [])
            stops.reads.shown_next unread);
      };
    }

    module _ (l a : ℕ) (stops : InnerStops (Malformed l a)) where
      some : HasSequence call.done
      some = let last_one = sequence_at_end call.put stops.next in
          (last_one.0, last_one.1, stops.then_next ∙ last_one.2)

      few : AreAllRead mid then inner call.done → l + a ≤ inner.read
      few all_read =
          omega (arith, reported_within stops all_read.1, ap length all_read.0, stops.pending)

      lens : (left ≡ 0) ⊎ ((left ≡ 1) × (inner.read ≡ 1) × AreAllRead mid then inner call.done)
          → AreReportedLens stops.next.kind l (a + left)
      lens held = elim held [
        | inl none_left ↦
            let same_pending : a ≡ a + left = omega arith in
            subst (AreReportedLens stops.next.kind l) same_pending stops.bounds
        | inr one_left ↦
            let few_read = few one_left.2 in
            let some_read = stops.not_empty in
            one_and_one stops.next.kind l a left (omega (arith, few_read, some_read))
            (omega (arith, few_read, some_read)) one_left.0 stops.bounds
      ]

      sure_at_escape : EscapeRead (is_repeated_escape stops.next.kind)
          → is_repeated_escape stops.next.kind ≡ true → shift.sure ≤ read
      sure_at_escape escape is_escape = elim escape [
        | inl all_there ↦ all_there is_escape
        | inr few_there ↦
            let six_long = is_six stops.next.kind l a is_escape stops.bounds in
            absurd (omega (arith, few few_there.1, six_long))
      ]

      -- how many bytes are read for it
      reads_on : (is_escape : Bool) → (is_escape ≡ true → shift.sure ≤ read)
          → ReadsToReported is_escape mid.sequences inner.src call.done inner.read then.pending
          → ReadsToReported is_escape old.sequences stage.src (stage.done ++ call.done) read
          new.pending
      reads_on true is_sure reported = record {
        not_shown = elim (most_or_more shift.below (read - 1)) [
          | inl past ↦ elim reads.exact [
            | inl none_read ↦ inl none_read
            | inr near ↦ elim (most_or_more read shift.below) [
              | inl close ↦ inl (omega (arith, past, close))
              | inr beyond ↦ elim near [
                | inl below ↦ absurd (omega (arith, beyond, below))
                | inr far ↦ elim reported.not_shown [
                  | inl none ↦ elim (reads.none none) [
                    | inl none_read ↦ inl none_read
                    | inr below ↦ absurd (omega (arith, beyond, below))
                  ]
                  | inr hidden ↦ inr (λ determines. hidden (determines_inside shift (inner.read - 1)
                      (read - 1) call.done (omega (arith, shift.near, past))
                      (omega (arith, reads.within))
                      (omega (arith, shift.shift, shift.near, past, beyond, far.1)) determines))
                ]
              ]
            ]
          ]
          | inr below ↦ inr (none_before shift call.done some (read - 1) below)
        ];
        shown = determines_outside shift bytes inner.read read call.done (is_sure refl)
            reads.within reads.there reported.shown;
      }
      reads_on false is_sure reported = record {
        not_shown = elim state.same [
          | inl same_pending ↦ elim reported.not_shown [
            | inl none_pending ↦ inl (same_pending ∙ none_pending)
            | inr hidden ↦ inr (none_shown shift reads call.done some hidden)
          ]
          | inr few_read ↦ inr (elim few_read [
            | inl none_read ↦ inl none_read
            | inr below ↦ inr (none_before shift call.done some read below)
          ])
        ];
        shown_next = shown_next shift reads bytes call.done reported.shown_next;
      }

      stops_malformed : inner.result ≡ Malformed l a
          → EscapeRead (is_repeated_escape stops.next.kind) → OuterStops (Malformed l (a + left))
      stops_malformed is_malformed escape = record {
        next = stops.next;
        then_next = ap (λ x. stage.done ++ x) stops.then_next
            ∙ sym (append_assoc stage.done call.put (stops.next ∷ []));
        malformed = stops.malformed;
        replacement = stops.replacement;
        not_replaced = ap is_replacement_mode (sym part.mode) ∙ stops.not_replaced;
        len = stops.len;
        not_empty = stops.not_empty;
        pending = omega (arith, state.pending, stops.pending);
        bounds = lens (state.held l a is_malformed);
        determined = determined_outside shift call.done stops.determined;
        none_after = none_after_shown shift reads call.done stops.none_after;
        reads = reads_on (is_repeated_escape stops.next.kind) (sure_at_escape escape) stops.reads;
      }

    stops_outside : (result : DecoderResult) → inner.result ≡ result
        → (stops : InnerStops result)
        → EscapeRead (stops_at_escape units_of mid then inner call.put call.done result stops)
        → OuterStops (shifted_result result left)
    stops_outside InputEmpty is_result stops escape = stops_empty is_result stops
    stops_outside OutputFull is_result stops escape = stops_full stops
    stops_outside (Malformed l a) is_result stops escape =
        stops_malformed l a stops is_result escape

    -- the text of both
    both : HasWritten units_of (stage_after stage read call.put inner.wrote inner.replaced)
    both = written_on written (record {
      text = call.text;
      scalars = call.scalars;
      fits = omega (arith, call.fits, part.room);
      flag = call.flag;
      none_replaced = λ is_fatal.
          call.none_replaced (ap is_replacement_mode part.mode ∙ is_fatal);
    })

    -- The outer one does what was done, and then what the inner one does.
    pub call_outside : (e : IsCall units_of old new outer) × (e.done ≡ stage.done ++ call.done)
    call_outside = (
      record {
        put = stage.done ++ call.put;
        done = stage.done ++ call.done;
        within = reads.within;
        residual = λ z ends.
            rw (shift.plain z ends, call.residual z ends, state.after z ends, append_assoc) refl;
        set = state.set;
        text = both.text;
        scalars = both.scalars;
        fits = both.fits;
        flag = both.flag;
        none_replaced = both.none_replaced;
        stops = stops_outside inner.result refl call.stops state.escape;
      },
      refl,
    )
