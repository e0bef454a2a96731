-- After a report: what holds from the start of the text on.
use Rattle.std.proofs.Common.{◌≡◌, ℕ, Bool, true, false}
use Rattle.std.proofs.Common.{◌||◌, is_some, Option, List, [], ◌∷◌}
use Rattle.std.proofs.Common.{◌++◌, refl, ap, ◌∙◌, sym, append_assoc}
use Rattle.enc_input.specs.declared.encoder_result.EncoderResult.{EncoderResult}
use Rattle.enc_input.specs.declared.encoder_result.EncoderResult.TheVariants.{Unmappable}
use Rattle.enc_encoder.specs.EncoderRule.{EncoderRule, IsLawfulEncoderRule}
use Rattle.enc_encoder.specs.ErrorMode.{ends_in_report}
use Rattle.enc_encoder.specs.Steps.{Step, any_reported, step_chars}
use Rattle.enc_encoder.specs.Text.{reference, reference_after}
use Rattle.enc_encoder.specs.Unmappable.{any_unmappable}
use Rattle.enc_encoder.proofs.TextLemmas.{keeps_text}
use Rattle.enc_encoder.proofs.UnmappableLemmas.{any_reported_is, any_unmappable-append}
use Rattle.enc_stream.proofs.ReferenceLemmas.{lawful_of}
use Rattle.enc_stream.specs.Encoder.{raw_state}
use Rattle.enc_writer.specs.EncodedText.{bytes_from_state}
use Rattle.enc_writer.specs.Writing.{WriterState}
use Rattle.enc_writer.specs.Writing.{HasWrittenText, owed_bytes}
use Rattle.enc_writer.specs.Reporting.{HasReportedText, HasReachedReport, ReportsText}
use Rattle.enc_writer.proofs.SinkLemmas.{AppendsContents-then}
use Rattle.enc_writer.proofs.EncodingLemmas.{not_ended}
use Rattle.enc_writer.specs.ReportedSteps.{ReportsSteps}
use Rattle.enc_writer.proofs.WritingLemmas.{same_rule}
use Rattle.enc_writer.proofs.ReportStepLemmas.{leaves_front, has_references, reference_written}

pub or_true : (x : Bool) → (x || true) ≡ true
or_true true = refl
or_true false = refl

pub any_at_end : (ps : List Step) → ends_in_report ps ≡ true → any_reported ps ≡ true
any_at_end [] ends = cc
any_at_end (p ∷ []) ends = ap (λ x. x || false) ends
any_at_end (p ∷ q ∷ ps) ends =
    ap (λ x. is_some p.report || x) (any_at_end (q ∷ ps) ends) ∙ or_true (is_some p.report)

-- whatever is said of unmappable characters before
HasReportedText-flag : {k₀ k₁ : Option (List ℕ)} {a b : WriterState} {t u : List ℕ}
    {r : EncoderResult} (had : Bool) → HasReportedText k₀ k₁ a b t u r
    → HasReportedText k₀ k₁ a (record b { had_unmappables = had }) t u r
HasReportedText-flag had reports = record {
  encoding = reports.encoding;
  barred = reports.barred;
  front = reports.front;
  reads = reports.reads;
  mappable = reports.mappable;
  reported = reports.reported;
  pushed = reports.pushed;
  taken = reports.taken;
  owed = reports.owed;
}

-- A character is reported. Whatever follows, the bytes owed are those of the reference first.
module _ {k₀ k₁ : Option (List ℕ)} {a b : WriterState} {t u : List ℕ} {c : ℕ}
    (steps : ReportsSteps k₀ k₁ a b t u (Unmappable c)) where
  lawful : IsLawfulEncoderRule (raw_state a.encoder).rule
  lawful = lawful_of a.encoder.barred a.encoder.encoding

  ends : ends_in_report steps.done ≡ true
  ends = steps.ends c refl

  owed_at : (z : List ℕ) → owed_bytes a (step_chars steps.done ++ z)
      ≡ steps.reports.pushed ++ (b.held ++ (reference c ++ bytes_from_state b.encoder z))
  owed_at z =
      let later = reference c ++ bytes_from_state b.encoder z in
      ap (λ x. a.held ++ x) (keeps_text (leaves_front lawful steps.leaves ends) lawful
      (Unmappable c) steps.wrote steps.bytes z (λ e. not_ended e))
      ∙ sym (append_assoc a.held steps.wrote later)
      ∙ ap (λ x. x ++ later) steps.bytes_kept
      ∙ append_assoc steps.reports.pushed b.held later

  -- the reference is what a caller may write next
  reference_next : (z : List ℕ) → reference c ++ bytes_from_state b.encoder z
      ≡ bytes_from_state b.encoder (reference c ++ z)
  reference_next z =
      let rule = (raw_state b.encoder).rule in
      let has : rule.has b.encoder.set 0x26 ≡ true =
      ap (λ (r : EncoderRule). r.has b.encoder.set 0x26) steps.leaves.rule
      ∙ has_references lawful steps.leaves ends in
      sym (reference_written rule (lawful_of b.encoder.barred b.encoder.encoding) b.encoder.set has
      c z)

  pub ReportsText-by : ReportsText k₀ k₁ a (record b { had_unmappables = true }) t u (Unmappable c)
  ReportsText-by = record {
    alone = HasReportedText-flag true steps.reports;
    after = λ k start before first.
        let chars_read = step_chars steps.done in
        let rule = (raw_state start.encoder).rule in
        let bytes : (z : List ℕ) → owed_bytes start ((before ++ chars_read) ++ z)
        ≡ (first.pushed ++ steps.reports.pushed)
        ++ (b.held ++ (reference c ++ bytes_from_state b.encoder z)) = λ z.
        ap (owed_bytes start) (append_assoc before chars_read z) ∙ first.owed (chars_read ++ z)
        ∙ ap (λ x. first.pushed ++ x) (owed_at z)
        ∙ sym (append_assoc first.pushed steps.reports.pushed
        (b.held ++ (reference c ++ bytes_from_state b.encoder z))) in
        record {
          encoding = steps.reports.encoding ∙ first.encoding;
          barred = steps.reports.barred ∙ first.barred;
          front = before ++ chars_read;
          reads = ap (λ x. before ++ x) steps.leaves.reads
              ∙ sym (append_assoc before chars_read u);
          unmappable = any_unmappable-append rule before chars_read
              ∙ ap (λ r. any_unmappable rule before || any_unmappable r chars_read)
              (sym (same_rule start.encoder a.encoder first.encoding first.barred))
              ∙ ap (λ x. any_unmappable rule before || x)
              (sym (any_reported_is steps.leaves) ∙ any_at_end steps.done ends)
              ∙ or_true (any_unmappable rule before);
          flag = refl;
          pushed = first.pushed ++ steps.reports.pushed;
          taken = AppendsContents-then k k₀ k₁ first.pushed steps.reports.pushed first.taken
              steps.reports.taken;
          owed = λ z. bytes z
              ∙ ap (λ x. (first.pushed ++ steps.reports.pushed) ++ (b.held ++ x))
              (reference_next z);
          bytes = bytes;
        };
  }

-- After the reference is written, all of the text is, as with replacement.
module _ {k₀ k₁ k₂ : Option (List ℕ)} {a b c : WriterState} where
  pub HasWrittenText-reference : {t u : List ℕ} {r : EncoderResult}
      (reached : HasReachedReport k₀ k₁ a b t u r)
      → HasWrittenText k₁ k₂ b c (reference_after r) → HasWrittenText k₀ k₂ a c reached.front
  HasWrittenText-reference {r = r} reached next = record {
    encoding = next.encoding ∙ reached.encoding;
    barred = next.barred ∙ reached.barred;
    pushed = reached.pushed ++ next.pushed;
    taken = AppendsContents-then k₀ k₁ k₂ reached.pushed next.pushed reached.taken next.taken;
    owed = λ z. reached.owed z ∙ ap (λ x. reached.pushed ++ x) (next.owed z)
        ∙ sym (append_assoc reached.pushed next.pushed (owed_bytes c z));
    flag = next.flag
        ∙ ap (λ x. x || any_unmappable (raw_state b.encoder).rule (reference_after r)) reached.flag
        ∙ sym (ap (λ x. a.had_unmappables || x) reached.unmappable ∙ or_true a.had_unmappables);
  }
