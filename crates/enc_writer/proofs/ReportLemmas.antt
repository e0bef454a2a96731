-- Calls of a writer that report unmappable characters.
use Rattle.std.proofs.Common.{◌≡◌, ℕ, ◌+◌, ◌≤◌, Bool, true, false, not, length}
use Rattle.std.proofs.Common.{◌||◌, is_some, Option, Some, None, List, [], ◌∷◌}
use Rattle.std.proofs.Common.{◌++◌, take, drop, refl, ap, ◌∙◌, sym, subst, append_assoc, append-nil}
use Rattle.std.proofs.Math.Seq.{take-add}
use Rattle.enc_input.specs.declared.encoder_result.EncoderResult.{EncoderResult}
use Rattle.enc_input.specs.declared.encoder_result.EncoderResult.TheVariants.{InputEmpty, OutputFull, Unmappable}
use Rattle.enc_encoder.specs.Call.{EncoderCall, EncoderStops}
use Rattle.enc_encoder.specs.EncoderRule.{EncoderRule, RawEncoderState}
use Rattle.enc_encoder.specs.ErrorMode.{CallInMode, Fatal, ends_in_report}
use Rattle.enc_encoder.specs.Steps.{Step, any_reported, step_chars, step_bytes, bytes_with_references}
use Rattle.enc_encoder.specs.Text.{reference_after}
use Rattle.enc_encoder.specs.Unmappable.{any_unmappable, report_for, reports_of}
use Rattle.enc_encoder.specs.Writes.{Leaves}
use Rattle.enc_encoder.proofs.LeavesLemmas.{leaves_in_mode, leaves_on, no_step}
use Rattle.enc_encoder.proofs.TextLemmas.{bytes_with_references-append, done_is}
use Rattle.enc_encoder.proofs.UnmappableLemmas.{any_reported_is, any_unmappable-append}
use Rattle.enc_encoder.proofs.UnmappableLemmas.{one_in, reports_are, reports_in}
use Rattle.enc_encoder.proofs.UnmappableLemmas.{reports_of-append}
use Rattle.enc_stream.specs.Encodings.{output_rule}
use Rattle.enc_stream.specs.Encoder.{EncoderState, EncodesChunk, raw_state}
use Rattle.enc_writer.specs.Sink.{AppendsPrefix}
use Rattle.enc_writer.specs.EncodedText.{bytes_from_state}
use Rattle.enc_writer.specs.Writing.{WriterState, PushesBytes}
use Rattle.enc_writer.specs.Writing.{WritesText}
use Rattle.enc_writer.specs.Stopping.{HasStopped}
use Rattle.enc_writer.specs.Reporting.{HasReportedText}
use Rattle.enc_writer.proofs.SinkLemmas.{AppendsContents-none, AppendsContents-then}
use Rattle.enc_writer.proofs.EncodingLemmas.{not_ended}
use Rattle.enc_writer.specs.ReportedSteps.{ReportsSteps}
use Rattle.enc_writer.proofs.WritingLemmas.{WritesText-alone, or_false}
use Rattle.enc_writer.proofs.StoppingLemmas.{SameState, same_state}

-- the steps of a call, by why it stopped

none_of : (new : RawEncoderState) (rest : List ℕ) (last : Bool) (room : ℕ) (done : List Step)
    (r : EncoderResult) → EncoderStops new rest last room done r
    → ((c : ℕ) → r ≡ Unmappable c → ⊥) → any_reported done ≡ false
none_of new rest last room done InputEmpty stops goes_on = stops.none_reported
none_of new rest last room done OutputFull stops goes_on = stops.none_reported
none_of new rest last room done (Unmappable c) stops goes_on = absurd (goes_on c refl)

one_of : (new : RawEncoderState) (rest : List ℕ) (last : Bool) (room : ℕ) (done : List Step)
    (r : EncoderResult) → EncoderStops new rest last room done r → (c : ℕ) → r ≡ Unmappable c
    → reports_in done ≡ c ∷ []
one_of new rest last room done InputEmpty stops c e = cc
one_of new rest last room done OutputFull stops c e = cc
one_of new rest last room done (Unmappable d) stops c e =
    let same : d ≡ c = cc in
    one_in new rest last room stops ∙ ap (λ x. x ∷ []) same

-- a text without unmappable characters has no report
none_reports : (e : EncoderRule) (t : List ℕ) → any_unmappable e t ≡ false → reports_of e t ≡ []
none_reports e [] none = refl
none_reports e (c ∷ t) none = at_char (e.bytes c) (λ rest. none_reports e t rest) none
  where
    at_char : (b : Option (List ℕ)) → (any_unmappable e t ≡ false → reports_of e t ≡ [])
        → (not (is_some b) || any_unmappable e t) ≡ false
        → (report_for e c b ++ reports_of e t) ≡ []
    at_char None later h = cc
    at_char (Some b) later h = later h

-- one call, which writes after the bytes held
module _ (k : Option (List ℕ)) {old new : EncoderState} (had : Bool) (held written : ℕ)
    (before after : List ℕ) where
  pub HasReportedText-call : {units_of : ℕ → List ℕ} {c : CallInMode} {left : List ℕ}
      → c.mode ≡ Fatal → c.last ≡ false
      → (encodes : EncodesChunk units_of old new c) → c.wrote ≡ take written (drop held after)
      → take held after ≡ take held before → left ≡ encodes.rest
      → HasReportedText k k
      (record { encoder = old; held = take held before; had_unmappables = had })
      (record { encoder = new; held = take (held + written) after; had_unmappables = had })
      c.src left c.result
  HasReportedText-call {c = c} {left = left} is_fatal not_last encodes wrote_is held_stay left_is =
      let call = encodes.call in
      let leaves = leaves_in_mode call in
      let stops : EncoderStops (raw_state new) encodes.rest c.last c.room call.done c.result =
      rw is_fatal at call.stops in
      let bytes_are : take held before ++ c.wrote ≡ take (held + written) after =
      ap (λ w. take held before ++ w) wrote_is
      ∙ ap (λ h. h ++ take written (drop held after)) (sym held_stay)
      ∙ sym (take-add held written after) in
      record {
        encoding = encodes.encoding;
        barred = encodes.barred;
        front = step_chars call.done;
        reads = call.reads ∙ ap (λ t. step_chars call.done ++ t) (sym left_is);
        mappable = λ goes_on. sym (any_reported_is leaves)
            ∙ none_of (raw_state new) encodes.rest c.last c.room call.done c.result stops goes_on;
        reported = λ x is. sym (reports_are leaves)
            ∙ one_of (raw_state new) encodes.rest c.last c.room call.done c.result stops x is;
        pushed = [];
        taken = AppendsContents-none k;
        owed = λ z.
            let later = reference_after c.result ++ bytes_from_state new (left ++ z) in
            ap (λ x. take held before ++ x) (call.text z (λ e. not_ended (sym not_last ∙ e))
            ∙ ap (λ t. c.wrote ++ (reference_after c.result ++ bytes_from_state new (t ++ z)))
            (sym left_is))
            ∙ sym (append_assoc (take held before) c.wrote later)
            ∙ ap (λ x. x ++ later) bytes_are;
      }

-- At the end of a text no character is unread.
pub none_left : (result : EncoderResult) → result ≡ InputEmpty → {units_of : ℕ → List ℕ}
    {old new : EncoderState} {c : CallInMode} → c.mode ≡ Fatal → c.result ≡ result
    → (encodes : EncodesChunk units_of old new c) → encodes.rest ≡ []
none_left result at_end {new = new} {c = c} is_fatal result_is encodes =
    let stops : EncoderStops (raw_state new) encodes.rest c.last c.room encodes.call.done
    InputEmpty =
    rw (is_fatal, result_is, at_end) at encodes.call.stops in
    stops.all_read

-- no text is read, and the bytes held may be pushed
pub HasReportedText-push : {k₀ k₁ : Option (List ℕ)} {a b : WriterState} (t : List ℕ)
    → PushesBytes k₀ k₁ a b [] → HasReportedText k₀ k₁ a b t t OutputFull
HasReportedText-push {a = a} {b = b} t pushes = record {
  encoding = ap (λ (e : EncoderState). e.encoding) pushes.encoder;
  barred = ap (λ (e : EncoderState). e.barred) pushes.encoder;
  front = [];
  reads = refl;
  mappable = λ goes_on. refl;
  reported = λ c is. cc;
  pushed = pushes.pushed;
  taken = pushes.taken;
  owed = λ z.
      let later = bytes_from_state a.encoder (t ++ z) in
      ap (λ x. x ++ later) (sym (append-nil a.held) ∙ pushes.bytes_kept)
      ∙ append_assoc pushes.pushed b.held later
      ∙ ap (λ (e : EncoderState). pushes.pushed ++ (b.held ++ bytes_from_state e (t ++ z)))
      (sym pushes.encoder);
}

module _ {k₀ k₁ k₂ : Option (List ℕ)} {a b c : WriterState} where
  pub HasReportedText-then : {t u v : List ℕ} {r : EncoderResult}
      → HasReportedText k₀ k₁ a b t u OutputFull → HasReportedText k₁ k₂ b c u v r
      → HasReportedText k₀ k₂ a c t v r
  HasReportedText-then {v = v} {r = r} first next =
      let rule = (raw_state a.encoder).rule in
      let same : (raw_state b.encoder).rule ≡ rule =
      ap (λ e. output_rule b.encoder.barred e) first.encoding
      ∙ ap (λ l. output_rule l a.encoder.encoding) first.barred in
      let none = first.mappable (λ x e. cc) in
      record {
        encoding = next.encoding ∙ first.encoding;
        barred = next.barred ∙ first.barred;
        front = first.front ++ next.front;
        reads = first.reads ∙ ap (λ x. first.front ++ x) next.reads
            ∙ sym (append_assoc first.front next.front v);
        mappable = λ goes_on. any_unmappable-append rule first.front next.front
            ∙ ap (λ x. x || any_unmappable rule next.front) none
            ∙ ap (λ (e : EncoderRule). any_unmappable e next.front) (sym same)
            ∙ next.mappable goes_on;
        reported = λ x is. reports_of-append rule first.front next.front
            ∙ ap (λ t. t ++ reports_of rule next.front) (none_reports rule first.front none)
            ∙ ap (λ (e : EncoderRule). reports_of e next.front) (sym same)
            ∙ next.reported x is;
        pushed = first.pushed ++ next.pushed;
        taken = AppendsContents-then k₀ k₁ k₂ first.pushed next.pushed first.taken next.taken;
        owed = λ z. first.owed z ∙ ap (λ x. first.pushed ++ x) (next.owed z)
            ∙ sym (append_assoc first.pushed next.pushed
            (c.held ++ (reference_after r ++ bytes_from_state c.encoder (v ++ z))));
      }

-- a part is taken, and a push of the bytes held fails
pub HasStopped-reported : {k₀ k₁ k₂ : Option (List ℕ)} {a b c : WriterState} {t u : List ℕ}
    → HasReportedText k₀ k₁ a b t u OutputFull → b.had_unmappables ≡ a.had_unmappables
    → AppendsPrefix k₁ k₂ b.held → SameState b c → HasStopped k₀ k₂ a c t false
HasStopped-reported {k₀} {k₁} {k₂} {a} {b} {c} {t} {u} first had part same =
    same_state (λ w. HasStopped k₀ k₂ a w t false) b c same (record {
      encoding = first.encoding;
      barred = first.barred;
      front = first.front;
      rest = u;
      reads = first.reads;
      flag = had ∙ or_false a.had_unmappables
          ∙ ap (λ x. a.had_unmappables || x) (sym (first.mappable (λ x e. cc)));
      pushed = first.pushed ++ part.wrote;
      lost = part.unwritten;
      taken = AppendsContents-then k₀ k₁ k₂ first.pushed part.wrote first.taken part.taken;
      owed = λ z ends.
          let later = bytes_from_state b.encoder (u ++ z) in
          first.owed z
          ∙ ap (λ x. first.pushed ++ x) (ap (λ x. x ++ later) part.prefix
          ∙ append_assoc part.wrote part.unwritten later)
          ∙ sym (append_assoc first.pushed part.wrote (part.unwritten ++ later));
    })

-- all of a text is taken
module _ {k₀ k₁ : Option (List ℕ)} {a b : WriterState} {t : List ℕ}
    (steps : ReportsSteps k₀ k₁ a b t [] InputEmpty) where
  pub none_unmappable : any_unmappable (raw_state a.encoder).rule t ≡ false
  none_unmappable =
      ap (any_unmappable (raw_state a.encoder).rule)
      (steps.reports.reads ∙ append-nil steps.reports.front)
      ∙ steps.reports.mappable (λ c e. cc)

  pub WritesText-reported : b.had_unmappables ≡ a.had_unmappables → WritesText k₀ k₁ a b t
  WritesText-reported had = WritesText-alone (record {
    encoding = steps.reports.encoding;
    barred = steps.reports.barred;
    pushed = steps.reports.pushed;
    taken = steps.reports.taken;
    owed = steps.reports.owed;
    flag = had ∙ or_false a.had_unmappables
        ∙ ap (λ x. a.had_unmappables || x) (sym none_unmappable);
  })

-- Steps

ends-one : (ps : List Step) (q : Step) → ends_in_report (ps ++ q ∷ []) ≡ is_some q.report
ends-one [] q = refl
ends-one (p ∷ []) q = refl
ends-one (p ∷ p' ∷ ps) q = ends-one (p' ∷ ps) q

ends-after : (ps qs : List Step) → ends_in_report qs ≡ true → ends_in_report (ps ++ qs) ≡ true
ends-after [] qs ends = ends
ends-after (p ∷ []) [] ends = cc
ends-after (p ∷ []) (q ∷ qs) ends = ends
ends-after (p ∷ p' ∷ ps) qs ends = ends-after (p' ∷ ps) qs ends

ends_of : (new : RawEncoderState) (rest : List ℕ) (last : Bool) (room : ℕ) (done : List Step)
    (r : EncoderResult) → EncoderStops new rest last room done r → (c : ℕ) → r ≡ Unmappable c
    → ends_in_report done ≡ true
ends_of new rest last room done InputEmpty stops c e = cc
ends_of new rest last room done OutputFull stops c e = cc
ends_of new rest last room done (Unmappable d) stops c e =
    ap ends_in_report stops.then_report ∙ ends-one stops.before stops.report
    ∙ ap (λ x. is_some x) stops.reported

module _ (k : Option (List ℕ)) {old new : EncoderState} (had : Bool) (held written : ℕ)
    (before after : List ℕ) where
  pub ReportsSteps-call : {units_of : ℕ → List ℕ} {c : CallInMode} {left : List ℕ}
      → c.mode ≡ Fatal → c.last ≡ false
      → (encodes : EncodesChunk units_of old new c) → c.wrote ≡ take written (drop held after)
      → take held after ≡ take held before → left ≡ encodes.rest
      → ReportsSteps k k (record { encoder = old; held = take held before; had_unmappables = had })
      (record { encoder = new; held = take (held + written) after; had_unmappables = had })
      c.src left c.result
  unfolding HasReportedText-call
  ReportsSteps-call {c = c} {left = left} is_fatal not_last encodes wrote_is held_stay left_is =
      let call = encodes.call in
      let wrote_bytes : c.wrote ≡ step_bytes call.done = rw is_fatal at call.bytes in
      let stops : EncoderStops (raw_state new) encodes.rest c.last c.room call.done c.result =
      rw is_fatal at call.stops in
      let raw : EncoderCall (raw_state old) (raw_state new) c.src encodes.rest c.last c.room
      c.result c.wrote = record {
        done = call.done;
        reads = call.reads;
        remaining = call.remaining;
        rule = call.rule;
        set = call.set;
        bytes = wrote_bytes;
        fits = subst (λ w. length w ≤ c.room) (sym wrote_bytes) (rw is_fatal at call.fits);
        stops = stops;
      } in
      record {
        reports = HasReportedText-call k had held written before after is_fatal not_last encodes
            wrote_is held_stay left_is;
        done = call.done;
        leaves = subst
            (λ rest. Leaves false (raw_state old) (raw_state new) c.src rest call.done)
            (sym left_is)
            (subst
            (λ last. Leaves last (raw_state old) (raw_state new) c.src encodes.rest call.done)
            not_last (leaves_in_mode call));
        ends = ends_of (raw_state new) encodes.rest c.last c.room call.done c.result stops;
        wrote = c.wrote;
        bytes = done_is raw;
        bytes_kept = ap (λ w. take held before ++ w) wrote_is
            ∙ ap (λ h. h ++ take written (drop held after)) (sym held_stay)
            ∙ sym (take-add held written after);
      }

-- no text is read, and the bytes held may be pushed
pub ReportsSteps-push : {k₀ k₁ : Option (List ℕ)} {a b : WriterState} (t : List ℕ)
    → PushesBytes k₀ k₁ a b [] → ReportsSteps k₀ k₁ a b t t OutputFull
unfolding HasReportedText-push
ReportsSteps-push {a = a} {b = b} t pushes = record {
  reports = HasReportedText-push t pushes;
  done = [];
  leaves = subst (λ (e : EncoderState). Leaves false (raw_state a.encoder) (raw_state e) t t [])
      (sym pushes.encoder) (no_step false (raw_state a.encoder) t);
  ends = λ c is. cc;
  wrote = [];
  bytes = refl;
  bytes_kept = pushes.bytes_kept;
}

module _ {k₀ k₁ k₂ : Option (List ℕ)} {a b c : WriterState} where
  pub ReportsSteps-then : {t u v : List ℕ} {r : EncoderResult}
      → ReportsSteps k₀ k₁ a b t u OutputFull → ReportsSteps k₁ k₂ b c u v r
      → ReportsSteps k₀ k₂ a c t v r
  unfolding HasReportedText-then
  ReportsSteps-then {r = r} first next = record {
    reports = HasReportedText-then first.reports next.reports;
    done = first.done ++ next.done;
    leaves = leaves_on first.leaves next.leaves;
    ends = λ x is. ends-after first.done next.done (next.ends x is);
    wrote = first.wrote ++ next.wrote;
    bytes = bytes_with_references-append first.done next.done
        ∙ ap (λ x. x ++ bytes_with_references next.done)
        (first.bytes ∙ append-nil first.wrote)
        ∙ ap (λ x. first.wrote ++ x) next.bytes
        ∙ sym (append_assoc first.wrote next.wrote (reference_after r));
    bytes_kept = sym (append_assoc a.held first.wrote next.wrote)
        ∙ ap (λ x. x ++ next.wrote) first.bytes_kept
        ∙ append_assoc first.reports.pushed b.held next.wrote
        ∙ ap (λ x. first.reports.pushed ++ x) next.bytes_kept
        ∙ sym (append_assoc first.reports.pushed next.reports.pushed c.held);
  }
