-- Readers over a slice: what they have handed out and reported of it, and what they owe.
use Rattle.std.proofs.Common.{◌≡◌, ℕ, ◌+◌, ◌-◌, ◌^◌, ◌<◌, Bool, true, List, [], ◌++◌, length, Some}
use Rattle.std.proofs.Common.{Option, refl, ap, ◌∙◌, sym}
use Rattle.std.proofs.Common.{arith, append_assoc, append-nil, length-append}
use Rattle.enc_decoder.specs.Sequence.{sequence_bytes}
use Rattle.enc_stream.specs.declared.bom.BomHandling.TheVariants.{Sniff}
use Rattle.enc_stream.specs.declared.encoding.Encoding.{Encoding}
use Rattle.enc_stream.specs.Faults.{faults_from, whole_faults}
use Rattle.enc_reader.specs.declared.malformed_sequence.MalformedSequence.{MalformedSequence}
use Rattle.enc_reader.specs.Source.{IsExhausted}
use Rattle.enc_reader.proofs.SourceLemmas.{at_end}
use Rattle.enc_reader.specs.Reading.{ReaderState, IsReaderAtEnd}
use Rattle.enc_reader.specs.Counting.{HasGiven, owed_faults}
use Rattle.enc_reader.specs.Reporting.{ReportsItems, faults_if}
use Rattle.enc_reader.proofs.ReportedFaultLemmas.{ReportsFaults-items}

-- Of the malformed sequences of `all` these are found. The reader owes the others, and its source
-- still gives `left`.
pub record HasFound (e : Encoding) (all left : List ℕ) (state : ReaderState) (count : ℕ)
    (found : List (ℕ × ℕ)) : Type 0 where
  pub given : ℕ
  pub all_given : given + length left ≡ length all
  pub counted : HasGiven count state given
  pub faults : whole_faults Sniff e all ≡ found ++ owed_faults given state left

module _ {e : Encoding} {all left rest : List ℕ} {old new : ReaderState} {n₀ n₁ : ℕ} where
  pub HasFound-read : {text : List ℕ} {malformed : Option MalformedSequence} {found : List (ℕ × ℕ)}
      {had_before had_after : Bool} → length all < 2 ^ 64 → HasFound e all left old n₀ found
      → ReportsItems (Some left) (Some rest) old new n₀ n₁ text malformed had_before had_after
      → (new.ended ≡ true → IsExhausted (Some rest))
      → HasFound e all rest new n₁ (found ++ faults_if malformed)
  HasFound-read {malformed = malformed} {found = found} small so_far reports exhausted =
      let reported = ReportsFaults-items reports refl refl in
      let bytes = reported.hands_out.bytes in
      let consumed : left ≡ bytes ++ rest = reported.hands_out.reads.given in
      let all : so_far.given + length bytes + length rest ≡ so_far.given + length left =
      omega (arith, ap length consumed, length-append bytes rest) in
      record {
        given = so_far.given + length bytes;
        all_given = all ∙ so_far.all_given;
        counted = reported.counts so_far.given so_far.counted;
        faults =
            so_far.faults
            ∙ ap (λ l. found ++ owed_faults so_far.given old l) consumed
            ∙ ap (λ l. found ++ l) (reported.reported so_far.given so_far.counted
            (omega (arith, small, all, so_far.all_given)) rest
            (λ ended. at_end (Some rest) (exhausted ended)))
            ∙ sym (append_assoc found (faults_if malformed)
            (owed_faults (so_far.given + length bytes) new rest));
      }

-- At the end all are found.
pub HasFound-all : {e : Encoding} {all rest : List ℕ} {state : ReaderState} {count : ℕ}
    {found : List (ℕ × ℕ)} → HasFound e all rest state count found
    → IsReaderAtEnd (Some rest) state → found ≡ whole_faults Sniff e all
HasFound-all {rest = rest} {state = state} {found = found} so_far end =
    let none : owed_faults so_far.given state rest ≡ [] =
    ap (owed_faults so_far.given state) end.exhausted
    ∙ ap (λ ss. faults_from (so_far.given + 0 - length (sequence_bytes ss)) ss) end.none_owed in
    sym (so_far.faults ∙ ap (λ l. found ++ l) none ∙ append-nil found)
