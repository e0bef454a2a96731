-- A call over bytes that were held back, and one over those that follow them, are a call over all
-- of them.
pub use Rattle.std.proofs.lemmas.List.{nil_from_length as no_bytes}
use Rattle.std.proofs.Common.{◌≡◌, ℕ, ◌+◌, ◌-◌, ◌<◌, ◌≤◌, Bool, true, false, List, [], ◌∷◌, ◌++◌, length, take}
use Rattle.std.proofs.Common.{refl, ap, ◌∙◌, sym, arith, append_assoc, ◌||◌, inl, inr, subst, ◌⊎◌}
use Rattle.std.proofs.lemmas.Bool.{false≢true}
use Rattle.std.proofs.lemmas.List.{length-append, take-append-le, drop-append-le}
use Rattle.enc_output.specs.declared.decoder_result.DecoderResult.{DecoderResult}
use Rattle.enc_output.specs.declared.decoder_result.DecoderResult.TheVariants.{InputEmpty, OutputFull, Malformed}
use Rattle.enc_output.specs.Output.{Output, with_appended}
use Rattle.enc_decoder.specs.Sequence.{Sequence, is_repeated_escape}
use Rattle.enc_decoder.specs.Remainder.{Remainder, AreBytes, Determines, AreDetermined}
use Rattle.enc_decoder.specs.Call.{IsCallInto, DecoderStops, ReadsToReported, reaches_end}
use Rattle.enc_decoder.specs.CallRecord.{Call, CallInto, call_writing}
use Rattle.enc_decoder.proofs.ByteLemmas.{bytes-append, determines_with}
use Rattle.enc_decoder.proofs.TwoCallsLemmas.{two_calls}
use Rattle.enc_output.proofs.OutputLemmas.{with_appended-with_appended, room_left}

-- what held bytes determine, they do whatever follows

module _ (remaining : List ℕ → List Sequence) (held src : List ℕ) (bytes : AreBytes held)
    (also : AreBytes src) where
  known_at : (last : Bool) (ss : List Sequence) → Determines remaining held ss
      → AreDetermined last remaining (held ++ src) ss
  known_at true ss determines = determines src also
  known_at false ss determines = λ z are_bytes.
      let first = determines (src ++ z) (bytes-append src z also are_bytes) in
      (first.0, ap remaining (append_assoc held src z) ∙ first.1)

  -- what holds of the first n of them
  still : (n : ℕ) → n ≤ length held → (P : List ℕ → Type 0) → P (take n held)
      → P (take n (held ++ src))
  still n within P = subst P (sym (take-append-le n held src within))

  hidden_still : (n : ℕ) → n ≤ length held → (read : ℕ) (ss : List Sequence)
      → (read ≡ 0) ⊎ (Determines remaining (take n held) ss → ⊥)
      → (read ≡ 0) ⊎ (Determines remaining (take n (held ++ src)) ss → ⊥)
  hidden_still n within read ss =
      still n within (λ x. (read ≡ 0) ⊎ (Determines remaining x ss → ⊥))

  module _ {read : ℕ} (within : read ≤ length held) (ss : List Sequence)
      (determines : Determines remaining held ss) where
    next_known : (read < length held → Determines remaining (take (read + 1) held) ss)
        → Determines remaining (take (read + 1) (held ++ src)) ss
    next_known next = determines_with remaining held src ss bytes also determines (read + 1)
        (λ there. next (omega (arith, there)))

    reads_still : (late : Bool) (pending : List ℕ)
        → ReadsToReported late remaining held ss read pending
        → ReadsToReported late remaining (held ++ src) ss read pending
    reads_still true pending reported = record {
      not_shown = hidden_still (read - 1) (omega (arith, within)) read ss reported.not_shown;
      shown = still read within (λ x. Determines remaining x ss) reported.shown;
    }
    reads_still false pending reported = record {
      not_shown = elim reported.not_shown [
        | inl none_pending ↦ inl none_pending
        | inr hidden ↦ inr (hidden_still read within read ss hidden)
      ];
      shown_next = λ _. next_known reported.shown_next;
    }

-- a call that stops within the bytes held stops so whatever follows
module _ (units_of : ℕ → List ℕ) (old new : Remainder) (c : Call) (src : List ℕ) (last : Bool)
    (bytes : AreBytes c.src) (also : AreBytes src) (within : c.read ≤ length c.src) where
  abbrev longer : Call
  longer = record c { src = c.src ++ src; last = last }

  stops_still : (put done : List Sequence) (result : DecoderResult)
      → (result ≡ InputEmpty → ⊥)
      → DecoderStops units_of old new (record c { last = false }) put done result
      → DecoderStops units_of old new longer put done result
  stops_still put done InputEmpty stopped stops = absurd (stopped refl)
  stops_still put done OutputFull stopped stops =
      let ss = done ++ stops.next ∷ [] in
      record {
        only_put = stops.only_put;
        next = stops.next;
        determined = known_at old.sequences c.src src bytes also last ss stops.determined;
        not_reported = stops.not_reported;
        full = stops.full;
        reads = record {
          not_shown = hidden_still old.sequences c.src src bytes also c.read within c.read ss
              stops.reads.not_shown;
          shown_next = λ _. next_known old.sequences c.src src bytes also within ss
              stops.determined stops.reads.shown_next;
        };
      }
  stops_still put done (Malformed l a) stopped stops = record {
    next = stops.next;
    then_next = stops.then_next;
    malformed = stops.malformed;
    replacement = stops.replacement;
    not_replaced = stops.not_replaced;
    len = stops.len;
    not_empty = stops.not_empty;
    pending = stops.pending;
    bounds = stops.bounds;
    determined = known_at old.sequences c.src src bytes also last done stops.determined;
    none_after = still old.sequences c.src src bytes also c.read within (λ x. (c.read ≡ 0)
        ⊎ ((s : Sequence) → Determines old.sequences x (done ++ s ∷ []) → ⊥)) stops.none_after;
    reads = reads_still old.sequences c.src src bytes also within done stops.determined
        (is_repeated_escape stops.next.kind) new.pending stops.reads;
  }

not_ended : (result : DecoderResult) → reaches_end false result ≡ false
not_ended InputEmpty = refl
not_ended OutputFull = refl
not_ended (Malformed l a) = refl

pub stops_in_held : {units_of : ℕ → List ℕ} {old new : Remainder} (c : CallInto) (src : List ℕ)
    (last : Bool) → AreBytes c.src → AreBytes src → (c.result ≡ InputEmpty → ⊥)
    → IsCallInto units_of old new (record c { last = false })
    → IsCallInto units_of old new (record c { src = c.src ++ src; last = last })
stops_in_held {units_of} {old} {new} c src last bytes also stopped into =
    let raw = into.call in
    let call = raw.call in
    let same_taken : take c.read (c.src ++ src) ≡ take c.read c.src =
    take-append-le c.read c.src src call.within in
    record {
      wrote = into.wrote;
      onto = into.onto;
      call = record {
        call = record {
          put = call.put;
          done = call.done;
          within = omega (arith, call.within, length-append c.src src);
          residual = λ z _.
              let same_rest = drop-append-le c.read c.src src call.within in
              rw (append_assoc, same_rest, append_assoc)
              (call.residual (src ++ z) (λ e. absurd (false≢true e)));
          set = call.set;
          text = call.text;
          scalars = call.scalars;
          fits = call.fits;
          flag = call.flag;
          none_replaced = call.none_replaced;
          stops = stops_still units_of old new (call_writing c into.wrote) src last bytes also
              call.within call.put call.done c.result stopped call.stops;
        };
        accounted = ap (λ x. old.pending ++ x) same_taken ∙ raw.accounted;
        goes_on = λ y _ first. rw same_taken (raw.goes_on y
            (λ e. absurd (false≢true (sym (not_ended c.result) ∙ e))) (rw same_taken at first));
      };
    }

-- a call that reads them all, and the next one
pub joins : {units_of : ℕ → List ℕ} {old mid new : Remainder} (held c : CallInto)
    → AreBytes held.src → AreBytes c.src → c.mode ≡ held.mode → c.before ≡ held.after
    → IsCallInto units_of old mid (record held { last = false; result = InputEmpty })
    → IsCallInto units_of mid new c
    → IsCallInto units_of old new (record c {
      src = held.src ++ c.src;
      mode = held.mode;
      before = held.before;
      read = held.read + c.read;
      replaced = held.replaced || c.replaced;
    })
joins held c bytes also same_mode onto first second = record {
  wrote = first.wrote ++ second.wrote;
  onto = second.onto ∙ ap (λ o. with_appended o second.wrote) (onto ∙ first.onto)
      ∙ with_appended-with_appended held.before first.wrote second.wrote;
  call = two_calls (call_writing held first.wrote) first.call bytes also same_mode
      (ap (λ (o : Output). o.room) onto
      ∙ room_left held.before held.after first.wrote first.onto) second.call;
}
