-- The malformed sequences of a read, by offset and length.
use Rattle.std.proofs.Common.{◌≡◌, ℕ, ◌+◌, Bool, List, [], ◌++◌, length, map, chars, Option, Some}
use Rattle.std.proofs.Common.{None, ap, ◌∙◌, sym, subst}
use Rattle.enc_reader.specs.declared.malformed_sequence.MalformedSequence.{MalformedSequence}
use Rattle.enc_reader.specs.Items.{Item, character_item, faults_among}
use Rattle.enc_reader.specs.Reading.{ReaderState, owed_sequences}
use Rattle.enc_reader.specs.Counting.{owed_items, PassesItems, PassesFaults}
use Rattle.enc_reader.specs.Reporting.{ReportsFaults, ReportsItems, replacement_if, faults_if, items_if, part_items}
use Rattle.enc_reader.proofs.ItemLemmas.{faults_are, faults_among-append, faults_among-text}

-- The faults among the items passed are passed.
faults_passed : (given : ℕ) (old new : ReaderState) (bytes : List ℕ) (items : List Item)
    → PassesItems given old new bytes items
    → PassesFaults given old new bytes (faults_among items)
faults_passed given old new bytes items passed z ends =
    faults_are _ (owed_sequences old (bytes ++ z))
    ∙ ap faults_among (passed z ends)
    ∙ faults_among-append items (owed_items (given + length bytes) new z)
    ∙ ap (λ l. faults_among items ++ l) (sym (faults_are _ (owed_sequences new z)))

faults_of_part : (text : List ℕ) (malformed : Option MalformedSequence)
    → faults_among (part_items text malformed) ≡ faults_if malformed
faults_of_part text None = faults_among-append (map character_item (chars text)) []
    ∙ ap (λ l. l ++ []) (faults_among-text (chars text))
faults_of_part text (Some m) =
    faults_among-append (map character_item (chars text)) (items_if (Some m))
    ∙ ap (λ l. l ++ faults_among (items_if (Some m))) (faults_among-text (chars text))

-- a read by the offset and length of the malformed sequence
module _ {t₀ t₁ : Option (List ℕ)} {old new : ReaderState} {n₀ n₁ : ℕ} {had_before had_after : Bool}
  where
    pub ReportsFaults-items : {text wrote : List ℕ} {malformed : Option MalformedSequence}
        {faults : List (ℕ × ℕ)}
        → ReportsItems t₀ t₁ old new n₀ n₁ text malformed had_before had_after
        → text ++ replacement_if malformed ≡ wrote → faults_if malformed ≡ faults
        → ReportsFaults t₀ t₁ old new n₀ n₁ wrote faults had_before had_after
    ReportsFaults-items {text = text} {malformed = malformed} reported wrote_is faults_are =
        rw (← wrote_is, ← faults_are) (record {
          hands_out = reported.hands_out;
          counts = reported.counts;
          reported = λ given has small.
              subst (PassesFaults given old new reported.hands_out.bytes)
              (faults_of_part text malformed)
              (faults_passed given old new reported.hands_out.bytes (part_items text malformed)
              (reported.passed given has small));
        })
