-- Calls of a writer with a policy, and what they say of the whole text.
use Rattle.std.proofs.Common.{◌≡◌, ℕ, true, false, ◌||◌, Option, List, [], ◌++◌, refl, ap, ◌∙◌, sym, subst}
use Rattle.std.proofs.Common.{append_assoc, append-nil}
use Rattle.std.proofs.Math.Bool.{or_assoc}
use Rattle.std.specs.Io.KnownBytes.{Keeps}
use Rattle.enc_input.specs.declared.encoder_result.EncoderResult.{EncoderResult}
use Rattle.enc_input.specs.declared.encoder_result.EncoderResult.TheVariants.{Unmappable}
use Rattle.enc_encoder.specs.declared.character_set.CharacterSet.{CharacterSet}
use Rattle.enc_encoder.specs.declared.character_set.CharacterSet.TheVariants.{Ascii}
use Rattle.enc_encoder.specs.Steps.{step_chars, steps_at_end, steps_from_state, steps_of, set_after_steps}
use Rattle.enc_encoder.specs.Steps.{bytes_with_references}
use Rattle.enc_encoder.specs.Text.{reference}
use Rattle.enc_encoder.specs.Unmappable.{any_unmappable}
use Rattle.enc_encoder.proofs.StepLemmas.{set_after_steps-append}
use Rattle.enc_encoder.proofs.TextLemmas.{steps_are_text}
use Rattle.enc_encoder.proofs.UnmappableLemmas.{any_reported_is, any_unmappable-append}
use Rattle.enc_stream.proofs.ReferenceLemmas.{lawful_of}
use Rattle.enc_stream.specs.Encoder.{EncoderState, raw_state}
use Rattle.enc_writer.specs.declared.unmappable_policy.UnmappablePolicy.{UnmappablePolicy}
use Rattle.enc_writer.specs.declared.unmappable_policy.UnmappablePolicy.TheVariants.{Reference}
use Rattle.enc_writer.specs.Sink.{AppendsContents, AppendsPrefix}
use Rattle.enc_writer.specs.EncodedText.{bytes_from_state}
use Rattle.enc_writer.specs.Writing.{WriterState, PushesBytes, WritesText, EndsText, owed_bytes}
use Rattle.enc_writer.specs.Stopping.{StopsText}
use Rattle.enc_writer.specs.ReportedSteps.{ReportsSteps}
use Rattle.enc_writer.specs.Policies.{bytes_with, encoded_with, owed_with, policy_bytes}
use Rattle.enc_writer.specs.Policies.{HasWrittenWith, WritesWith, HasStoppedWith, StopsWith, EndsWith}
use Rattle.enc_writer.specs.PolicySteps.{HasEncodedWith}
use Rattle.enc_writer.proofs.SinkLemmas.{AppendsContents-none, AppendsContents-then, AppendsPrefix-front}
use Rattle.enc_writer.proofs.SinkLemmas.{AppendsContents-keeps}
use Rattle.enc_writer.proofs.WritingLemmas.{HasWrittenText-none, WritesText-alone, or_false, same_rule}
use Rattle.enc_writer.proofs.StoppingLemmas.{SameState, same_state, StopsText-by}
use Rattle.enc_writer.proofs.PolicyBytesLemmas.{bytes_with-references, steps_of-append}
use Rattle.enc_writer.proofs.PolicyStepLemmas.{HasEncodedWith-push, HasEncodedWith-put, HasEncodedWith-then, put_alone}
use Rattle.enc_writer.proofs.PolicyStepLemmas.{owed_by_steps, all_done, any_is}

-- all of a text is encoded
pub HasWrittenWith-by : {put : ℕ → List ℕ} {k₀ k₁ : Option (List ℕ)} {a b : WriterState}
    {t : List ℕ} → HasEncodedWith put k₀ k₁ a b t [] → HasWrittenWith put k₀ k₁ a b t
HasWrittenWith-by {a = a} encoded = record {
  encoding = encoded.encoding;
  barred = encoded.barred;
  set = encoded.leaves.set ∙ ap (set_after_steps a.encoder.set) (sym (all_done encoded));
  pushed = encoded.pushed;
  taken = encoded.taken;
  owed = owed_by_steps encoded;
  flag = encoded.flag ∙ ap (λ x. a.had_unmappables || x) (any_is encoded);
}

pub HasWrittenWith-then : {put : ℕ → List ℕ} {k₀ k₁ k₂ : Option (List ℕ)} {a b c : WriterState}
    {t u : List ℕ} → HasWrittenWith put k₀ k₁ a b t → HasWrittenWith put k₁ k₂ b c u
    → HasWrittenWith put k₀ k₂ a c (t ++ u)
HasWrittenWith-then {put} {k₀} {k₁} {k₂} {a} {b} {c} {t} {u} first next =
    let rule = (raw_state a.encoder).rule in
    let same = same_rule a.encoder b.encoder first.encoding first.barred in
    let steps = steps_of rule false a.encoder.set t in
    record {
      encoding = next.encoding ∙ first.encoding;
      barred = next.barred ∙ first.barred;
      set = next.set
          ∙ ap (λ r. set_after_steps b.encoder.set (steps_of r false b.encoder.set u)) same
          ∙ ap (λ s. set_after_steps s (steps_of rule false s u)) first.set
          ∙ sym (ap (set_after_steps a.encoder.set)
          (steps_of-append rule false a.encoder.set t u)
          ∙ set_after_steps-append a.encoder.set steps
          (steps_of rule false (set_after_steps a.encoder.set steps) u));
      pushed = first.pushed ++ next.pushed;
      taken = AppendsContents-then k₀ k₁ k₂ first.pushed next.pushed first.taken next.taken;
      owed = λ last z. ap (owed_with put a last) (append_assoc t u z) ∙ first.owed last (u ++ z)
          ∙ ap (λ x. first.pushed ++ x) (next.owed last z)
          ∙ sym (append_assoc first.pushed next.pushed (owed_with put c last z));
      flag = next.flag ∙ ap (λ r. b.had_unmappables || any_unmappable r u) same
          ∙ ap (λ h. h || any_unmappable rule u) first.flag
          ∙ or_assoc a.had_unmappables (any_unmappable rule t) (any_unmappable rule u)
          ∙ ap (λ r. a.had_unmappables || r) (sym (any_unmappable-append rule t u));
    }

pub WritesWith-alone : {put : ℕ → List ℕ} {k₀ k₁ : Option (List ℕ)} {a b : WriterState}
    {t : List ℕ} → HasWrittenWith put k₀ k₁ a b t → WritesWith put k₀ k₁ a b t
WritesWith-alone alone =
    record { alone = alone; after = λ k start before first. HasWrittenWith-then first alone }

-- the bytes held may be pushed, whatever the policy
pub WritesWith-push : {put : ℕ → List ℕ} {k₀ k₁ : Option (List ℕ)} {a b : WriterState}
    → PushesBytes k₀ k₁ a b [] → WritesWith put k₀ k₁ a b []
WritesWith-push {put} pushes =
    WritesWith-alone (HasWrittenWith-by (HasEncodedWith-push put [] pushes))

-- the sink keeps its bytes after that
pub HasWrittenWith-keeps : {put : ℕ → List ℕ} {k₀ k₁ k₂ : Option (List ℕ)} {a b c : WriterState}
    {t : List ℕ} → HasWrittenWith put k₀ k₁ a b t → Keeps k₁ k₂ → c ≡ b
    → HasWrittenWith put k₀ k₂ a c t
HasWrittenWith-keeps {put} {k₀} {k₁} {k₂} {a} {t = t} written keeps same =
    subst (λ w. HasWrittenWith put k₀ k₂ a w t) (sym same) (record {
      encoding = written.encoding;
      barred = written.barred;
      set = written.set;
      pushed = written.pushed;
      taken = AppendsContents-keeps k₀ k₁ k₂ written.pushed written.taken keeps;
      owed = written.owed;
      flag = written.flag;
    })

-- A writer that fails

-- a part is encoded, and a push of the bytes held fails
pub HasStoppedWith-held : {put : ℕ → List ℕ} {k₀ k₁ k₂ : Option (List ℕ)} {a b c : WriterState}
    {t u : List ℕ} → HasEncodedWith put k₀ k₁ a b t u → AppendsPrefix k₁ k₂ b.held
    → SameState b c → HasStoppedWith put k₀ k₂ a c t
HasStoppedWith-held {put} {k₀} {k₁} {k₂} {a} {b} {c} {t} {u} encoded part same =
    same_state (λ w. HasStoppedWith put k₀ k₂ a w t) b c same (record {
      encoding = encoded.encoding;
      barred = encoded.barred;
      front = step_chars encoded.done;
      rest = u;
      reads = encoded.leaves.reads;
      flag = encoded.flag ∙ ap (λ x. a.had_unmappables || x) (any_reported_is encoded.leaves);
      pushed = encoded.pushed ++ part.wrote;
      lost = part.unwritten;
      taken = AppendsContents-then k₀ k₁ k₂ encoded.pushed part.wrote encoded.taken part.taken;
      owed = λ last z.
          let later = encoded_with put b.encoder last (u ++ z) in
          owed_by_steps encoded last z
          ∙ ap (λ x. encoded.pushed ++ x) (ap (λ x. x ++ later) part.prefix
          ∙ append_assoc part.wrote part.unwritten later)
          ∙ sym (append_assoc encoded.pushed part.wrote (part.unwritten ++ later));
    })

-- a character is reported, and a push of the bytes held before what is put for it fails
module _ {put : ℕ → List ℕ} {k₀ k₁ k₂ k₃ : Option (List ℕ)} {a b n d : WriterState} where
  pub HasStoppedWith-put : {t u v : List ℕ} {r : EncoderResult} (c : ℕ) → r ≡ Unmappable c
      → HasEncodedWith put k₀ k₁ a b t u → ReportsSteps k₁ k₂ b n u v r
      → AppendsPrefix k₂ k₃ n.held → SameState (record n { had_unmappables = true }) d
      → HasStoppedWith put k₀ k₃ a d t
  HasStoppedWith-put c is encoded steps part same =
      let before = record n { had_unmappables = true } in
      let puts = put_alone k₂ before (put c) in
      HasStoppedWith-held {b = record before { held = n.held ++ put c }}
      (HasEncodedWith-then encoded (HasEncodedWith-put steps put c is puts))
      (AppendsPrefix-front (put c) part) same

-- no call is made
pub HasStoppedWith-none : (put : ℕ → List ℕ) (k : Option (List ℕ)) (w : WriterState) (t : List ℕ)
    → HasStoppedWith put k k w w t
HasStoppedWith-none put k w t = record {
  encoding = refl;
  barred = refl;
  front = [];
  rest = t;
  reads = refl;
  flag = or_false w.had_unmappables;
  pushed = [];
  lost = w.held;
  taken = AppendsContents-none k;
  owed = λ last z. refl;
}

-- after a text that is written
pub StopsWith-by : {put : ℕ → List ℕ} {k₀ k₁ : Option (List ℕ)} {a c : WriterState} {t : List ℕ}
    → HasStoppedWith put k₀ k₁ a c t → StopsWith put k₀ k₁ a c t
StopsWith-by {put} {k₀} {k₁} {a} {c} {t} stopped = record {
  alone = stopped;
  after = λ k start before first.
      let rule = (raw_state start.encoder).rule in
      record {
        encoding = stopped.encoding ∙ first.encoding;
        barred = stopped.barred ∙ first.barred;
        front = before ++ stopped.front;
        rest = stopped.rest;
        reads = ap (λ x. before ++ x) stopped.reads
            ∙ sym (append_assoc before stopped.front stopped.rest);
        flag = stopped.flag
            ∙ ap (λ r. a.had_unmappables || any_unmappable r stopped.front)
            (same_rule start.encoder a.encoder first.encoding first.barred)
            ∙ ap (λ x. x || any_unmappable rule stopped.front) first.flag
            ∙ or_assoc start.had_unmappables (any_unmappable rule before)
            (any_unmappable rule stopped.front)
            ∙ ap (λ x. start.had_unmappables || x)
            (sym (any_unmappable-append rule before stopped.front));
        pushed = first.pushed ++ stopped.pushed;
        lost = stopped.lost;
        taken = AppendsContents-then k k₀ k₁ first.pushed stopped.pushed first.taken stopped.taken;
        owed = λ last z. ap (owed_with put start last) (append_assoc before t z)
            ∙ first.owed last (t ++ z)
            ∙ ap (λ x. first.pushed ++ x) (stopped.owed last z)
            ∙ sym (append_assoc first.pushed stopped.pushed _);
      };
}

-- Decimal references: what a write with replacement writes

references_are_text : (e : EncoderState) (t : List ℕ)
    → encoded_with reference e true t ≡ bytes_from_state e t
references_are_text e t =
    bytes_with-references (steps_from_state (raw_state e) true t)
    ∙ steps_are_text (raw_state e).rule (lawful_of e.barred e.encoding) e.set t

pub WritesText-references : {k₀ k₁ : Option (List ℕ)} {a b : WriterState} {t : List ℕ}
    → HasEncodedWith reference k₀ k₁ a b t [] → WritesText k₀ k₁ a b t
WritesText-references {a = a} {b = b} {t = t} encoded =
    let written = HasWrittenWith-by encoded in
    WritesText-alone (record {
      encoding = written.encoding;
      barred = written.barred;
      pushed = written.pushed;
      taken = written.taken;
      owed = λ z. ap (λ x. a.held ++ x) (sym (references_are_text a.encoder (t ++ z)))
          ∙ written.owed true z
          ∙ ap (λ x. written.pushed ++ (b.held ++ x)) (references_are_text b.encoder z);
      flag = written.flag;
    })

pub StopsText-references : {k₀ k₁ : Option (List ℕ)} {a c : WriterState} {t : List ℕ}
    → HasStoppedWith reference k₀ k₁ a c t → StopsText k₀ k₁ a c t false
StopsText-references {a = a} {c = c} {t = t} stopped = StopsText-by (record {
  encoding = stopped.encoding;
  barred = stopped.barred;
  front = stopped.front;
  rest = stopped.rest;
  reads = stopped.reads;
  flag = stopped.flag;
  pushed = stopped.pushed;
  lost = stopped.lost;
  taken = stopped.taken;
  owed = λ z ends. ap (λ x. a.held ++ x) (sym (references_are_text a.encoder (t ++ z)))
      ∙ stopped.owed true z
      ∙ ap (λ x. stopped.pushed ++ (stopped.lost ++ x))
      (references_are_text c.encoder (stopped.rest ++ z));
})

-- the policy of decimal references

pub WritesText-policy : {k₀ k₁ : Option (List ℕ)} {a b : WriterState} {t : List ℕ}
    (policy : UnmappablePolicy) → policy ≡ Reference
    → HasEncodedWith (policy_bytes policy) k₀ k₁ a b t [] → WritesText k₀ k₁ a b t
WritesText-policy {k₀} {k₁} {a} {b} {t} policy is encoded =
    WritesText-references
    (subst (λ p. HasEncodedWith (policy_bytes p) k₀ k₁ a b t []) is encoded)

pub StopsText-policy : {k₀ k₁ : Option (List ℕ)} {a c : WriterState} {t : List ℕ}
    (policy : UnmappablePolicy) → policy ≡ Reference
    → HasStoppedWith (policy_bytes policy) k₀ k₁ a c t → StopsText k₀ k₁ a c t false
StopsText-policy {k₀} {k₁} {a} {c} {t} policy is stopped =
    StopsText-references (subst (λ p. HasStoppedWith (policy_bytes p) k₀ k₁ a c t) is stopped)

-- The end of a text

end_is : (put : ℕ → List ℕ) (s : CharacterSet)
    → bytes_with put (steps_at_end s) ≡ bytes_with_references (steps_at_end s)
end_is put Ascii = refl
end_is put _ = refl

pub EndsWith-by : {k₀ k₁ : Option (List ℕ)} {a : WriterState} → EndsText k₀ k₁ a
    → (put : ℕ → List ℕ) → EndsWith put k₀ k₁ a
unfolding steps_of
EndsWith-by {k₀} {k₁} {a} ends put k start text first =
    let rule = (raw_state a.encoder).rule in
    let lawful = lawful_of a.encoder.barred a.encoder.encoding in
    let end : owed_with put a true [] ≡ owed_bytes a [] =
    ap (λ x. a.held ++ x) (end_is put a.encoder.set
    ∙ steps_are_text rule lawful a.encoder.set []) in
    let whole : owed_with put start true text ≡ first.pushed ++ owed_bytes a [] =
    ap (owed_with put start true) (sym (append-nil text)) ∙ first.owed true []
    ∙ ap (λ x. first.pushed ++ x) end in
    subst (AppendsContents k k₁) (sym whole)
    (AppendsContents-then k k₀ k₁ first.pushed (owed_bytes a []) first.taken
    (ends k₀ a [] (HasWrittenText-none k₀ a)))
