use Rattle.std.proofs.Common.{rules, ◌≡◌, ◌^◌, ◌<◌, ◌++◌, length, None, Some, ap, sym, subst, ◌∙◌, append-nil}
use Rattle.std.proofs.lemmas.List.{nil_from_length}
use Rattle.enc_reader.specs.Reader.{state_of}
use Rattle.enc_reader.specs.Reporting.{faults_if}
use Rattle.example_callers.proofs.SliceLemmas.{HasFound, HasFound-read, HasFound-all}
use Rattle.example_callers.proofs.streams.malformed_of.Goals as goal

pub returns-then-is_empty : goal.returns-then-is_empty
returns-then-is_empty c =
    let reader = c.read_text_without_replacement.new.self in
    let small : length c.args.bytes.now < 2 ^ 64 = search rules in
    let none : c.in_ok-part.part.malformed ≡ None = search rules in
    let length_is : length c.in_ok-part.part.text.now ≡ 0 = search rules in
    let empty = nil_from_length c.in_ok-part.part.text.now length_is in
    sym (append-nil c.loop.found.items)
    ∙ ap (λ m. c.loop.found.items ++ faults_if m) (sym none)
    ∙ HasFound-all
    (HasFound-read small c.loop.invariant.found c.in_ok-part.ensures.ok reader.exhausted)
    (c.in_ok-part.ensures.end empty none)

pub loop-preserved-in_default : goal.loop-preserved-in_default
loop-preserved-in_default c =
    let reader = c.read_text_without_replacement.new.self in
    let small : length c.args.bytes.now < 2 ^ 64 = search rules in
    let none : c.in_ok-part.part.malformed ≡ None = search rules in
    record {
      found = subst (HasFound c.args.encoding c.args.bytes.now reader.reader.now.inner.now
          (state_of reader) reader.given)
          (ap (λ m. c.loop.found.items ++ faults_if m) none ∙ append-nil c.loop.found.items)
          (HasFound-read small c.loop.invariant.found c.in_ok-part.ensures.ok reader.exhausted);
    }

pub loop-preserved : goal.loop-preserved
loop-preserved c =
    let reader = c.read_text_without_replacement.new.self in
    let small : length c.args.bytes.now < 2 ^ 64 = search rules in
    let some : c.in_ok-part.part.malformed ≡ Some c.in-Some.malformed = search rules in
    let stored : c.push.new.self.items
    ≡ c.loop.found.items ++ faults_if (Some c.in-Some.malformed) = search rules in
    record {
      found = subst (HasFound c.args.encoding c.args.bytes.now reader.reader.now.inner.now
          (state_of reader) reader.given)
          (ap (λ m. c.loop.found.items ++ faults_if m) some ∙ sym stored)
          (HasFound-read small c.loop.invariant.found c.in_ok-part.ensures.ok reader.exhausted);
    }
