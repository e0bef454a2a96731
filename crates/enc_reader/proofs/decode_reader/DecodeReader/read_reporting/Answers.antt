use Rattle.std.proofs.Common.{rules, ◌≡◌, ◌-◌, length, take, drop, [], ◌∷◌, None, refl, ap, sym, subst, ◌∙◌, arith}
use Rattle.std.proofs.Common.{inl, inr, ◌++◌}
use Rattle.enc_reader.specs.Reader.{state_of}
use Rattle.enc_reader.specs.Reading.{FillsRoom}
use Rattle.enc_reader.proofs.ReadingLemmas.{FailsToRead-waiting, FailsToRead-kept}
use Rattle.std.proofs.Math.ListN.{length-drop}
use Rattle.std.proofs.lemmas.List.{length-take}
use Rattle.enc_decoder.proofs.SequenceLemmas.{or_false, or_true}
use Rattle.enc_reader.proofs.ReportingLemmas.{HasReported-turn, HasReported-more}
use Rattle.enc_reader.proofs.ReportingLemmas.{ReportsItems-text, ReportsItems-malformed}
use Rattle.enc_reader.specs.Items.{malformed_item}
use Rattle.enc_reader.proofs.decode_reader.DecodeReader.read_reporting.Goals as goal

pub pulls-init : goal.pulls-init
pulls-init g c =
    let turn = c.decode_reporting-turn in
    record {
      reported = rw turn.ensures.reader
          (HasReported-turn turn.ensures.turn turn.ensures.items turn.ensures.counts);
      lens = turn.ensures.lens;
      full = turn.ensures.full;
      within = search rules;
      text = search rules;
      rest = search rules;
      none = search rules;
      unreported = search rules;
      room = search rules;
      buffer_len = search rules;
      going = search rules;
      had_errors = search rules;
      kept = search rules;
      same_reader = search rules;
    }

pub pulls-preserved : goal.pulls-preserved
pulls-preserved g c =
    let turn = c.decode_reporting-turn-in-pulls in
    let invariant = c.pulls.invariant in
    let none : take c.pulls.turn.written c.pulls.dst ≡ [] =
    ap (λ n. take n c.pulls.dst) (invariant.none c.pulls-test.true) in
    let waited = rw (none, invariant.unreported c.pulls-test.true, c.pulls-test.true)
    at invariant.reported in
    record {
      reported = rw turn.ensures.reader
          (HasReported-more waited c.in_ok-pull.ensures.ok turn.ensures.turn turn.ensures.items
          turn.ensures.counts);
      lens = turn.ensures.lens;
      full = λ unreported. subst (λ n. FillsRoom n turn.result.written (state_of turn.new.self))
          invariant.room (turn.ensures.full unreported);
      within = search rules;
      text = search rules;
      rest = search rules;
      none = search rules;
      unreported = search rules;
      room = search rules;
      buffer_len = search rules;
      going = search rules;
      had_errors = search rules;
      kept = search rules;
      same_reader = search rules;
    }

pub returns-in_default-clause-ok : goal.returns-in_default-clause-ok
returns-in_default-clause-ok g c =
    let invariant = c.pulls.invariant in
    let none : c.pulls.turn.malformed ≡ None = search rules in
    let reported = rw (none, c.pulls-test.false) at invariant.reported in
    ReportsItems-text reported
    (invariant.had_errors ∙ sym (or_false c.args.self.now.had_errors)) c.pulls.self.exhausted

pub returns-clause-ok : goal.returns-clause-ok
returns-clause-ok g c =
    let reader = c.pulls.self in
    let lens = c.in-Some.lens in
    let recent = reader.recent ++ take reader.at reader.input.now in
    let reported = rw (c.in-Some.is, c.pulls-test.false) at c.pulls.invariant.reported in
    let found = c.sequence_of.ensures in
    let unread : length (take (reader.filled - reader.at) (drop reader.at reader.input.now))
    ≡ reader.filled - reader.at = omega (
      arith,
      reader.within,
      length-take (reader.filled - reader.at) (drop reader.at reader.input.now),
      length-drop reader.at reader.input.now,
    ) in
    ReportsItems-malformed c.sequence_of.result reported
    (sym (or_true c.args.self.now.had_errors)) reader.exhausted
    (ap (λ n. malformed_item (reader.given - n - lens.after - lens.len)
    (take lens.len (drop (length recent - lens.after - lens.len) recent)) ∷ []) unread
    ∙ ap (λ n. malformed_item n
    (take lens.len (drop (length recent - lens.after - lens.len) recent)) ∷ []) (sym found.offset)
    ∙ ap (λ l. malformed_item c.sequence_of.result.offset l ∷ []) (sym found.bytes))

pub returns-then-pulls-clause-reader_fault : goal.returns-then-pulls-clause-reader_fault
returns-then-pulls-clause-reader_fault g c =
    let invariant = c.pulls.invariant in
    let none : take c.pulls.turn.written c.pulls.dst ≡ [] =
    ap (λ n. take n c.pulls.dst) (invariant.none c.pulls-test.true) in
    let waited = rw (none, invariant.unreported c.pulls-test.true, c.pulls-test.true)
    at invariant.reported in
    λ _. FailsToRead-waiting waited.so_far.read (c.args.self.now.going c.if-self.false)
    (inr (omega (arith, waited.so_far.read.enough refl, c.if-pulls.true)))

pub returns-in_err-pull-clause-reader_fault : goal.returns-in_err-pull-clause-reader_fault
returns-in_err-pull-clause-reader_fault g c =
    let invariant = c.pulls.invariant in
    let failed = c.in_err-pull.ensures in
    let none : take c.pulls.turn.written c.pulls.dst ≡ [] =
    ap (λ n. take n c.pulls.dst) (invariant.none c.pulls-test.true) in
    let waited = rw (none, invariant.unreported c.pulls-test.true, c.pulls-test.true)
    at invariant.reported in
    λ _. rw failed.same
    (FailsToRead-kept _ _ _ failed.none_given
    (FailsToRead-waiting waited.so_far.read (c.args.self.now.going c.if-self.false)
    (inl failed.err)))
