use Rattle.std.proofs.Common.{refl, rules, ◌≡◌, ◌<◌, ◌∙◌, sym, ap, length, []}
use Rattle.std.proofs.lemmas.Bool.{false≢true}
use Rattle.enc_reader.specs.Reader.{state_of}
use Rattle.enc_reader.proofs.ReadingLemmas.{reader_at}
use Rattle.recode_engine.specs.declared.engine.RecodeFault.TheVariants.{Read, Write}
use Rattle.recode_engine.proofs.RunLemmas.{has_failed-between, has_failed-reading, HasRun-start, HasRun-more}
use Rattle.recode_engine.proofs.RunLemmas.{RunsToEnd-last, RunsToFault-between, RunsToFault-writing}
use Rattle.recode_engine.proofs.RunLemmas.{RunsToFault-pushing, RunsToFault-ending, RunsToFault-reading}
use Rattle.recode_engine.proofs.FaultRunLemmas.{WritesDetermined-reading}
use Rattle.enc_writer.specs.Writing.{WriterState}
use Rattle.recode_engine.proofs.RunOutcomeLemmas.{HandsOut-by, IsRecodeRun-ok, IsRecodeRun-fault}
use Rattle.recode_engine.proofs.RunOutcomeLemmas.{RunsToEnd-by, when_err, is_readers, no_text, some_text}
use Rattle.recode_engine.proofs.engine.write_all.Goals as goal

pub reads-init : goal.reads-init
reads-init g c = record {
  ran = λ handling from to fresh_reader fresh_writer.
      HasRun-start refl fresh_reader refl fresh_writer c.requires.no_errors;
  text_room = search rules;
  reading = search rules;
  writing = search rules;
  reader_kept = refl;
  writer_kept = refl;
  same_reader = refl;
  same_writer = refl;
}

pub returns-in_default-clause-run : goal.returns-in_default-clause-run
returns-in_default-clause-run g c = λ handling from to fresh_reader fresh_writer.
    let next = reader_at (g.R.Source.remaining c.read_or_lend.new.self.reader.now)
    (state_of c.read_or_lend.new.self) in
    let invariant = c.reads.invariant in
    let ran = invariant.ran handling from to fresh_reader fresh_writer in
    let fault = is_readers c.read_or_lend.result (search rules)
    (λ f. false≢true (sym invariant.reading ∙ c.read_or_lend.ensures.from_then_on.0 f)) in
    let fails = c.read_or_lend.ensures.reader_fault fault in
    IsRecodeRun-fault c.requires.reader c.requires.writer Read refl
    (RunsToFault-reading ran next fails)
    (λ _. (
      has_failed-reading ran next fails,
      invariant.writer_kept,
      λ _. WritesDetermined-reading ran next fails,
    )) (λ is. cc)

pub returns-in_default-end_text-clause-run : goal.returns-in_default-end_text-clause-run
returns-in_default-end_text-clause-run g c = λ handling from to fresh_reader fresh_writer.
    let next = reader_at (g.R.Source.remaining c.read_or_lend.new.self.reader.now)
    (state_of c.read_or_lend.new.self) in
    let ran = c.reads.invariant.ran handling from to fresh_reader fresh_writer in
    let none : c.text-piece.result.now ≡ [] = no_text _ (search rules) in
    IsRecodeRun-fault c.requires.reader c.requires.writer Write refl
    (RunsToFault-ending next ran
    (HandsOut-by c.text-piece.ensures c.in-Ok.ensures.ok)
    (c.in-Ok.ensures.end (no_text _ (search rules))) none
    (when_err c.end_text.result (search rules) c.end_text.ensures.err))
    (λ is. cc) (λ _. (search rules, search rules))

pub returns-then-is_empty-clause-run : goal.returns-then-is_empty-clause-run
returns-then-is_empty-clause-run g c = λ handling from to fresh_reader fresh_writer.
    let next = reader_at (g.R.Source.remaining c.read_or_lend.new.self.reader.now)
    (state_of c.read_or_lend.new.self) in
    let ran = c.reads.invariant.ran handling from to fresh_reader fresh_writer in
    let none : c.text-piece.result.now ≡ [] = no_text _ (search rules) in
    IsRecodeRun-ok c.requires.reader c.requires.writer refl
    (RunsToEnd-by (search rules)
    (RunsToEnd-last next ran
    (HandsOut-by c.text-piece.ensures c.in-Ok.ensures.ok)
    (c.in-Ok.ensures.end (no_text _ (search rules))) none c.in-Ok-end_text.ensures.ok))
    (search rules) (search rules)

pub returns-in_default-write_str-clause-run : goal.returns-in_default-write_str-clause-run
returns-in_default-write_str-clause-run g c = λ handling from to fresh_reader fresh_writer.
    let next = reader_at (g.R.Source.remaining c.read_or_lend.new.self.reader.now)
    (state_of c.read_or_lend.new.self) in
    let ran = c.reads.invariant.ran handling from to fresh_reader fresh_writer in
    IsRecodeRun-fault c.requires.reader c.requires.writer Write refl
    (RunsToFault-writing next ran
    (HandsOut-by c.text-piece.ensures c.in-Ok.ensures.ok)
    (when_err c.write_str.result (search rules) c.write_str.ensures.err))
    (λ is. cc) (λ _. (search rules, search rules))

pub returns-in_default-push_held-clause-run : goal.returns-in_default-push_held-clause-run
returns-in_default-push_held-clause-run g c = λ handling from to fresh_reader fresh_writer.
    let next = reader_at (g.R.Source.remaining c.read_or_lend.new.self.reader.now)
    (state_of c.read_or_lend.new.self) in
    let ran = c.reads.invariant.ran handling from to fresh_reader fresh_writer in
    IsRecodeRun-fault c.requires.reader c.requires.writer Write refl
    (RunsToFault-pushing next ran
    (HandsOut-by c.text-piece.ensures c.in-Ok.ensures.ok)
    c.in-Ok-write_str.ensures.ok
    (when_err c.push_held.result (search rules) c.push_held.ensures.err))
    (λ is. cc) (λ _. (search rules, search rules))

pub reads-preserved : goal.reads-preserved
reads-preserved g c =
    let next = reader_at (g.R.Source.remaining c.read_or_lend.new.self.reader.now)
    (state_of c.read_or_lend.new.self) in
    let some : 0 < length c.text-piece.result.now = some_text _ (search rules) in
    record {
      ran = λ handling from to fresh_reader fresh_writer.
          HasRun-more next (c.reads.invariant.ran handling from to fresh_reader fresh_writer)
          (HandsOut-by c.text-piece.ensures c.in-Ok.ensures.ok)
          c.in-Ok-write_str.ensures.ok c.in-Ok-push_held.ensures.ok
          (ap (λ (w : WriterState). w.held) c.in-Ok-push_held.ensures.none_held) some;
      text_room = search rules;
      reading = search rules;
      writing = search rules;
      reader_kept = search rules;
      writer_kept = search rules;
      same_reader = search rules;
      same_writer = search rules;
    }

pub returns-clause-run : goal.returns-clause-run
returns-clause-run g c = λ handling from to fresh_reader fresh_writer.
    let invariant = c.reads.invariant in
    let ran = invariant.ran handling from to fresh_reader fresh_writer in
    IsRecodeRun-fault c.requires.reader c.requires.writer Read refl (RunsToFault-between ran)
    (λ _. (
      has_failed-between ran _ (search rules),
      invariant.writer_kept,
      λ failed. absurd (false≢true (sym (invariant.reader_kept ∙ c.requires.reader) ∙ failed)),
    )) (λ is. cc)
