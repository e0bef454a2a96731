-- The steps of a writer with a policy: successive ones are one.
use Rattle.std.proofs.Common.{◌≡◌, ℕ, ◌+◌, ◌≤◌, Bool, true, false, ◌||◌, Option, List, [], ◌∷◌, ◌++◌, take}
use Rattle.std.proofs.Common.{refl, ap, ◌∙◌, sym, subst, append_assoc, append-nil, arith, length, length-append}
use Rattle.std.proofs.lemmas.List.{append_cancel_right, length-take-le}
use Rattle.std.proofs.Math.Bool.{or_assoc}
use Rattle.enc_input.specs.declared.encoder_result.EncoderResult.{EncoderResult}
use Rattle.enc_input.specs.declared.encoder_result.EncoderResult.TheVariants.{Unmappable}
use Rattle.enc_encoder.specs.Steps.{step_chars, step_bytes, any_reported, steps_of, steps_from_state}
use Rattle.enc_encoder.specs.Text.{reference, reference_after}
use Rattle.enc_encoder.specs.Unmappable.{any_unmappable, reports_of}
use Rattle.enc_encoder.specs.Writes.{Leaves}
use Rattle.enc_encoder.proofs.LeavesLemmas.{leaves_on, no_step}
use Rattle.enc_encoder.proofs.StepLemmas.{any_reported-append}
use Rattle.enc_encoder.proofs.UnmappableLemmas.{any_reported_is, reports_are, reports_in}
use Rattle.enc_stream.specs.Encoder.{EncoderState, raw_state}
use Rattle.enc_writer.specs.Writing.{WriterState, PushesBytes}
use Rattle.enc_writer.specs.ReportedSteps.{ReportsSteps}
use Rattle.enc_writer.specs.Policies.{bytes_with, encoded_with, owed_with}
use Rattle.enc_writer.specs.PolicySteps.{HasEncodedWith}
use Rattle.enc_writer.proofs.SinkLemmas.{AppendsContents-none, AppendsContents-then}
use Rattle.enc_writer.proofs.WritingLemmas.{or_false}
use Rattle.enc_writer.proofs.AfterReportLemmas.{any_at_end, or_true}
use Rattle.enc_writer.proofs.PolicyBytesLemmas.{bytes_with-append, bytes_with-references, bytes_with-none}
use Rattle.enc_writer.proofs.PolicyBytesLemmas.{bytes_with-one, steps_then}

-- The steps of calls, and their bytes: those that the calls wrote, and those put for the character
-- reported.
module _ {k₀ k₁ : Option (List ℕ)} {a b : WriterState} {t u : List ℕ} {r : EncoderResult}
    (steps : ReportsSteps k₀ k₁ a b t u r) where
  front_is : steps.reports.front ≡ step_chars steps.done
  front_is = append_cancel_right steps.reports.front (step_chars steps.done) u
      (sym steps.reports.reads ∙ steps.leaves.reads)

  none_in_done : ((c : ℕ) → r ≡ Unmappable c → ⊥) → any_reported steps.done ≡ false
  none_in_done goes_on =
      any_reported_is steps.leaves
      ∙ ap (any_unmappable (raw_state a.encoder).rule) (sym front_is)
      ∙ steps.reports.mappable goes_on

  one_in_done : (c : ℕ) → r ≡ Unmappable c → reports_in steps.done ≡ c ∷ []
  one_in_done c is =
      reports_are steps.leaves ∙ ap (reports_of (raw_state a.encoder).rule) (sym front_is)
      ∙ steps.reports.reported c is

  bytes_unreported : (put : ℕ → List ℕ) → ((c : ℕ) → r ≡ Unmappable c → ⊥)
      → reference_after r ≡ [] → bytes_with put steps.done ≡ steps.wrote
  bytes_unreported put goes_on none =
      let none_reported = none_in_done goes_on in
      bytes_with-none put steps.done none_reported
      ∙ sym (bytes_with-none reference steps.done none_reported)
      ∙ bytes_with-references steps.done ∙ steps.bytes
      ∙ ap (λ x. steps.wrote ++ x) none ∙ append-nil steps.wrote

  bytes_reported : (put : ℕ → List ℕ) (c : ℕ) → r ≡ Unmappable c
      → bytes_with put steps.done ≡ steps.wrote ++ put c
  bytes_reported put c is =
      let ends = steps.ends c is in
      let one = one_in_done c is in
      let wrote : step_bytes steps.done ≡ steps.wrote =
      append_cancel_right (step_bytes steps.done) steps.wrote (reference c)
      (sym (bytes_with-one reference c steps.done ends one) ∙ bytes_with-references steps.done
      ∙ steps.bytes ∙ ap (λ x. steps.wrote ++ reference_after x) is) in
      bytes_with-one put c steps.done ends one ∙ ap (λ x. x ++ put c) wrote

  -- a part without an unmappable character
  pub HasEncodedWith-mappable : (put : ℕ → List ℕ) → ((c : ℕ) → r ≡ Unmappable c → ⊥)
      → reference_after r ≡ [] → b.had_unmappables ≡ a.had_unmappables
      → HasEncodedWith put k₀ k₁ a b t u
  HasEncodedWith-mappable put goes_on none had = record {
    encoding = steps.reports.encoding;
    barred = steps.reports.barred;
    done = steps.done;
    leaves = steps.leaves;
    flag = had ∙ or_false a.had_unmappables
        ∙ ap (λ x. a.had_unmappables || x) (sym (none_in_done goes_on));
    pushed = steps.reports.pushed;
    taken = steps.reports.taken;
    bytes_kept = ap (λ x. a.held ++ x) (bytes_unreported put goes_on none) ∙ steps.bytes_kept;
  }

  -- a part up to an unmappable character, and what is put for it
  pub HasEncodedWith-put : (put : ℕ → List ℕ) (c : ℕ) → r ≡ Unmappable c
      → {k₂ : Option (List ℕ)} {d : WriterState}
      → PushesBytes k₁ k₂ (record b { had_unmappables = true }) d (put c)
      → HasEncodedWith put k₀ k₂ a d t u
  HasEncodedWith-put put c is {k₂} {d} pushes = record {
    encoding = ap (λ (e : EncoderState). e.encoding) pushes.encoder ∙ steps.reports.encoding;
    barred = ap (λ (e : EncoderState). e.barred) pushes.encoder ∙ steps.reports.barred;
    done = steps.done;
    leaves = subst
        (λ (e : EncoderState).
        Leaves false (raw_state a.encoder) (raw_state e) t u steps.done)
        (sym pushes.encoder) steps.leaves;
    flag = pushes.flag
        ∙ sym (ap (λ x. a.had_unmappables || x) (any_at_end steps.done (steps.ends c is))
        ∙ or_true a.had_unmappables);
    pushed = steps.reports.pushed ++ pushes.pushed;
    taken = AppendsContents-then k₀ k₁ k₂ steps.reports.pushed pushes.pushed steps.reports.taken
        pushes.taken;
    bytes_kept = ap (λ x. a.held ++ x) (bytes_reported put c is)
        ∙ sym (append_assoc a.held steps.wrote (put c))
        ∙ ap (λ x. x ++ put c) steps.bytes_kept
        ∙ append_assoc steps.reports.pushed b.held (put c)
        ∙ ap (λ x. steps.reports.pushed ++ x) pushes.bytes_kept
        ∙ sym (append_assoc steps.reports.pushed pushes.pushed d.held);
  }

-- no text is read, and the bytes held may be pushed
pub HasEncodedWith-push : {k₀ k₁ : Option (List ℕ)} {a b : WriterState} (put : ℕ → List ℕ)
    (t : List ℕ) → PushesBytes k₀ k₁ a b [] → HasEncodedWith put k₀ k₁ a b t t
HasEncodedWith-push {a = a} {b = b} put t pushes = record {
  encoding = ap (λ (e : EncoderState). e.encoding) pushes.encoder;
  barred = ap (λ (e : EncoderState). e.barred) pushes.encoder;
  done = [];
  leaves = subst (λ (e : EncoderState). Leaves false (raw_state a.encoder) (raw_state e) t t [])
      (sym pushes.encoder) (no_step false (raw_state a.encoder) t);
  flag = pushes.flag ∙ or_false a.had_unmappables;
  pushed = pushes.pushed;
  taken = pushes.taken;
  bytes_kept = pushes.bytes_kept;
}

module _ {put : ℕ → List ℕ} {k₀ k₁ k₂ : Option (List ℕ)} {a b c : WriterState} where
  pub HasEncodedWith-then : {t u v : List ℕ} → HasEncodedWith put k₀ k₁ a b t u
      → HasEncodedWith put k₁ k₂ b c u v → HasEncodedWith put k₀ k₂ a c t v
  HasEncodedWith-then first next =
      let bytes = bytes_with put next.done in
      record {
        encoding = next.encoding ∙ first.encoding;
        barred = next.barred ∙ first.barred;
        done = first.done ++ next.done;
        leaves = leaves_on first.leaves next.leaves;
        flag = next.flag ∙ ap (λ x. x || any_reported next.done) first.flag
            ∙ or_assoc a.had_unmappables (any_reported first.done) (any_reported next.done)
            ∙ ap (λ x. a.had_unmappables || x) (sym (any_reported-append first.done next.done));
        pushed = first.pushed ++ next.pushed;
        taken = AppendsContents-then k₀ k₁ k₂ first.pushed next.pushed first.taken next.taken;
        bytes_kept = ap (λ x. a.held ++ x) (bytes_with-append put first.done next.done)
            ∙ sym (append_assoc a.held (bytes_with put first.done) bytes)
            ∙ ap (λ x. x ++ bytes) first.bytes_kept
            ∙ append_assoc first.pushed b.held bytes
            ∙ ap (λ x. first.pushed ++ x) next.bytes_kept
            ∙ sym (append_assoc first.pushed next.pushed c.held);
      }

-- the bytes held may be pushed after that
pub HasEncodedWith-pushed : {put : ℕ → List ℕ} {k₀ k₁ k₂ : Option (List ℕ)} {a b c : WriterState}
    {t u : List ℕ} → HasEncodedWith put k₀ k₁ a b t u → PushesBytes k₁ k₂ b c []
    → HasEncodedWith put k₀ k₂ a c t u
HasEncodedWith-pushed {put} {u = u} encoded pushes =
    HasEncodedWith-then encoded (HasEncodedWith-push put u pushes)

-- these bytes alone
pub put_alone : (k : Option (List ℕ)) (w : WriterState) (bytes : List ℕ)
    → PushesBytes k k w (record w { held = w.held ++ bytes }) bytes
put_alone k w bytes = record {
  encoder = refl;
  flag = refl;
  pushed = [];
  taken = AppendsContents-none k;
  bytes_kept = refl;
}

-- The bytes owed before are those pushed and those owed now.
module _ {put : ℕ → List ℕ} {k₀ k₁ : Option (List ℕ)} {a b : WriterState} {t u : List ℕ}
    (encoded : HasEncodedWith put k₀ k₁ a b t u) where
  pub owed_by_steps : (last : Bool) (z : List ℕ)
      → owed_with put a last (t ++ z) ≡ encoded.pushed ++ owed_with put b last (u ++ z)
  owed_by_steps last z =
      let later = encoded_with put b.encoder last (u ++ z) in
      ap (λ x. a.held ++ bytes_with put x) (steps_then encoded.leaves last z)
      ∙ ap (λ x. a.held ++ x)
      (bytes_with-append put encoded.done (steps_from_state (raw_state b.encoder) last (u ++ z)))
      ∙ sym (append_assoc a.held (bytes_with put encoded.done) later)
      ∙ ap (λ x. x ++ later) encoded.bytes_kept
      ∙ append_assoc encoded.pushed b.held later

  -- If all bytes of the text fit into a buffer, 14 of its bytes are free after those held.
  pub room_by_steps : {len : ℕ} → length (owed_with put a false t) + 14 ≤ len
      → length b.held + 14 ≤ len
  room_by_steps fits =
      let later = encoded_with put b.encoder false (u ++ []) in
      let whole = ap (λ x. length (owed_with put a false x)) (sym (append-nil t))
      ∙ ap length (owed_by_steps false []) in
      omega (
        arith,
        fits,
        whole,
        length-append encoded.pushed (b.held ++ later),
        length-append b.held later,
      )

-- all of a text is encoded
module _ {put : ℕ → List ℕ} {k₀ k₁ : Option (List ℕ)} {a b : WriterState} {t : List ℕ}
    (encoded : HasEncodedWith put k₀ k₁ a b t []) where
  pub all_read : step_chars encoded.done ≡ t
  all_read = sym (encoded.leaves.reads ∙ append-nil (step_chars encoded.done))

  pub all_done : steps_from_state (raw_state a.encoder) false t ≡ encoded.done
  unfolding steps_of
  all_done = encoded.leaves.remaining ∙ append-nil encoded.done

  pub any_is : any_reported encoded.done ≡ any_unmappable (raw_state a.encoder).rule t
  any_is = any_reported_is encoded.leaves
      ∙ ap (any_unmappable (raw_state a.encoder).rule) all_read

  -- without an unmappable character the policy is of no account
  pub HasEncodedWith-references : any_unmappable (raw_state a.encoder).rule t ≡ false
      → HasEncodedWith reference k₀ k₁ a b t []
  HasEncodedWith-references none =
      let none_reported = any_is ∙ none in
      record {
        encoding = encoded.encoding;
        barred = encoded.barred;
        done = encoded.done;
        leaves = encoded.leaves;
        flag = encoded.flag;
        pushed = encoded.pushed;
        taken = encoded.taken;
        bytes_kept = ap (λ x. a.held ++ x)
            (bytes_with-none reference encoded.done none_reported
            ∙ sym (bytes_with-none put encoded.done none_reported))
            ∙ encoded.bytes_kept;
      }

-- the room of the buffer by that of the bytes held
pub room_now : (filled : ℕ) (output : List ℕ) {len : ℕ} → filled ≤ length output
    → length (take filled output) + 14 ≤ len → length output ≡ len → filled + 14 ≤ length output
room_now filled output within fits same =
    omega (arith, length-take-le filled output within, within, fits, same)

-- the same before bytes are put for an unmappable character
module _ {put : ℕ → List ℕ} {k₀ k₁ k₂ : Option (List ℕ)} {a b n : WriterState} where
  pub room_before_put : {t u v : List ℕ} {r : EncoderResult} {len : ℕ} (c : ℕ) → r ≡ Unmappable c
      → HasEncodedWith put k₀ k₁ a b t u → ReportsSteps k₁ k₂ b n u v r
      → length (owed_with put a false t) + 14 ≤ len → length n.held + 14 ≤ len
  room_before_put c is encoded steps fits =
      let puts = put_alone k₂ (record n { had_unmappables = true }) (put c) in
      let all = HasEncodedWith-then encoded (HasEncodedWith-put steps put c is puts) in
      omega (arith, room_by_steps all fits, length-append n.held (put c))

-- bytes put after those held
pub PushesBytes-put : {k₀ k₁ : Option (List ℕ)} {a b : WriterState} {held : List ℕ}
    (bytes : List ℕ) → PushesBytes k₀ k₁ a b [] → held ≡ b.held ++ bytes
    → PushesBytes k₀ k₁ a (record b { held = held }) bytes
PushesBytes-put {a = a} {b = b} bytes pushes held_is = record {
  encoder = pushes.encoder;
  flag = pushes.flag;
  pushed = pushes.pushed;
  taken = pushes.taken;
  bytes_kept = ap (λ x. x ++ bytes) (sym (append-nil a.held) ∙ pushes.bytes_kept)
      ∙ append_assoc pushes.pushed b.held bytes
      ∙ ap (λ x. pushes.pushed ++ x) (sym held_is);
}
