-- Each call of a run of an encoder takes a step, or ends it.
use Rattle.std.proofs.Common.{◌≡◌, ℕ, ◌+◌, ◌*◌, ◌<◌, ◌≤◌, ◌⊎◌, inl, inr, Bool, true, false, List, [], ◌∷◌, ◌++◌}
use Rattle.std.proofs.Common.{length, take, drop, nat_le, refl, ap, ◌∙◌, sym, arith, length-append}
use Rattle.std.specs.List.{All}
use Rattle.std.proofs.lemmas.Bool.{false≢true, and_from, false_from_ne_true}
use Rattle.std.proofs.lemmas.Bool.Decides.{nat_tests}
use Rattle.std.proofs.lemmas.List.{take-append-drop, length-take}
use Rattle.enc_decoder.proofs.FirstSequenceLemmas.{true_or_false}
use Rattle.enc_encoder.specs.Steps.{Step, steps_from_state, step_chars}
use Rattle.enc_encoder.proofs.StepCountLemmas.{few_steps}
use Rattle.enc_encoder.proofs.LeavesLemmas.{leaves_in_mode, whatever_follows}
use Rattle.enc_encoder.proofs.NeedInModeLemmas.{kept_by, takes_step}
use Rattle.enc_stream.specs.declared.encoding.Encoding.{Encoding}
use Rattle.encoding_rs.specs.declared.encode_run.EncodeCall.{EncodeCall}
use Rattle.enc_stream.specs.Properties.{output_encoding_of}
use Rattle.enc_stream.specs.Encoder.{EncoderState, room_kept_for_references, raw_state}
use Rattle.encoding_rs.specs.EncodeRun.{encode_error_mode, is_input_empty_result, EncodeRunState}
use Rattle.encoding_rs.specs.EncodeRun.{encode_run_start, EncodeRunAdvances}
use Rattle.encoding_rs.specs.EncodeEnd.{least_room, CanEncodeMore}
use Rattle.enc_stream.proofs.ReferenceLemmas.{lawful_of}
use Rattle.encoding_rs.proofs.EncodeCallLemmas.{nothing_later, left_nothing}
use Rattle.encoding_rs.proofs.EncodeRunLemmas.{IsInText, starts_in_text, stays_in_text, raw, rest_is}
use Rattle.encoding_rs.specs.Runs.{IsRun}
use Rattle.encoding_rs.proofs.RunLemmas.{ends_within}

room_for : (b : List ℕ) (e : Encoding) (v : EncoderState) (replace : Bool)
    → v.encoding ≡ output_encoding_of e → v.barred ≡ b
    → 4 + kept_by (encode_error_mode replace v) ≡ least_room b e replace
room_for b e v true q h = ap (λ (x : Encoding). 4 + room_kept_for_references v.barred x) q
    ∙ ap (λ l. 4 + room_kept_for_references l (output_encoding_of e)) h
room_for b e v false q h = refl

some_read : (src rest : List ℕ) (done : List Step) → src ≡ step_chars done ++ rest → rest ≡ []
    → 1 ≤ length src → 1 ≤ length done
some_read src rest (p ∷ done) r e l = omega arith
some_read src rest [] r e l = absurd (omega (arith, l, ap length r, ap length e))

-- the number of steps to come in a run
abbrev to_come : List ℕ → EncodeRunState → ℕ
to_come text s = length (steps_from_state (raw_state s.encoder) true (drop s.read text))

-- A call that doesn't end the run takes a step.
module _ {b : List ℕ} {e : Encoding} {text : List ℕ} {made : EncodeCall} {old new : EncodeRunState}
    (in_text : IsInText b e text old) (further : CanEncodeMore b e made)
    (advances : EncodeRunAdvances text made old new) where
  abbrev unread : List ℕ
  unread = drop old.read text

  abbrev done : List Step
  done = (raw in_text advances).done

  abbrev last : Bool
  last = nat_le (length unread) made.offer

  module _ (goes_on : new.finished ≡ false) where
    when_empty : is_input_empty_result advances.result ≡ true → 1 ≤ length done
    when_empty is_empty =
        let beyond : nat_le (length unread) made.offer ≡ false =
        false_from_ne_true last
        (λ is_last. false≢true (sym goes_on ∙ advances.finished ∙ and_from last _ is_last is_empty))
        in
        let none_unread = left_nothing _ _ advances.call.encodes.rest last made.room done
        advances.result (raw in_text advances).stops is_empty in
        let some : 1 ≤ length (take made.offer unread) =
        grind (arith, nat_tests, length-take made.offer unread, further.offered, beyond) in
        some_read (take made.offer unread) advances.call.encodes.rest done
        (raw in_text advances).reads none_unread some

    some_done : 1 ≤ length done
    some_done = elim (true_or_false (is_input_empty_result advances.result)) [
      | inl is_empty ↦ when_empty is_empty
      | inr not_empty ↦ takes_step (raw_state new.encoder)
          (lawful_of new.encoder.barred new.encoder.encoding) advances.call.encodes.rest last
          made.room (encode_error_mode made.replace old.encoder)
          (omega (arith, room_for b e old.encoder made.replace in_text.encoding in_text.barred))
          done advances.result
          (λ e. false≢true (sym not_empty ∙ ap is_input_empty_result e))
          (raw in_text advances).stops
    ]

    fewer : to_come text new < to_come text old
    fewer =
        let later = drop made.offer unread in
        let rest = advances.call.encodes.rest in
        let all : steps_from_state (raw_state old.encoder) true (take made.offer unread ++ later)
        ≡ done ++ steps_from_state (raw_state new.encoder) true (rest ++ later) =
        whatever_follows (leaves_in_mode (raw in_text advances)) later
        (nothing_later unread made.offer) in
        omega (
          arith,
          ap (λ t. length (steps_from_state (raw_state old.encoder) true t))
              (sym (take-append-drop made.offer unread)),
          ap length all,
          ap (λ t. length (steps_from_state (raw_state new.encoder) true t))
              (rest_is in_text advances),
          length-append done (steps_from_state (raw_state new.encoder) true (rest ++ later)),
          some_done,
        )

  ends_or_fewer : IsInText b e text new
      × ((new.finished ≡ true) ⊎ (to_come text new < to_come text old))
  ends_or_fewer = (
    stays_in_text in_text advances,
    elim (true_or_false new.finished) [ inl ended ↦ inl ended | inr goes_on ↦ inr (fewer goes_on) ],
  )

-- Two calls for each character, and two more, are enough.
pub ends : (b : List ℕ) (e : Encoding) (text : List ℕ) (calls : List EncodeCall) (n : ℕ)
    (s : EncodeRunState) → n ≤ length calls → (s.finished ≡ true) ⊎ (n ≡ length calls)
    → All (CanEncodeMore b e) calls
    → IsRun (EncodeRunAdvances text) (take n calls) (encode_run_start b e) s
    → (n ≤ 2 * length text + 2) × (2 * length text + 2 ≤ length calls → s.finished ≡ true)
ends b e text calls n s =
    let start = encode_run_start b e in
    let few : to_come text start ≤ 2 * length text + 1 =
    few_steps (raw_state start.encoder).rule true text start.encoder.set in
    ends_within (EncodeRunAdvances text) (CanEncodeMore b e) (IsInText b e text)
    (λ (a : EncodeRunState). a.finished) (to_come text)
    (λ call old new advances. advances.not_finished)
    (λ call old new in_text further advances. ends_or_fewer in_text further advances) calls n
    (2 * length text + 2) start s (omega (arith, few)) (starts_in_text b e text)
