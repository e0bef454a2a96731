use Rattle.std.proofs.Common.{rules, arith, ◌≡◌, ◌||◌, take, [], ap, subst, refl, inl, inr}
use Rattle.enc_reader.specs.Reader.{state_of}
use Rattle.enc_reader.specs.Reading.{FillsRoom}
use Rattle.enc_reader.proofs.ReadingLemmas.{HasRead-turn, HasRead-more, FailsToRead-waiting}
use Rattle.enc_reader.proofs.ReadingLemmas.{FailsToRead-kept}
use Rattle.enc_reader.proofs.CountingLemmas.{HasCounted-turn, HasCounted-more, HandsOutCounted-read}
use Rattle.enc_reader.proofs.decode_reader.DecodeReader.read_str.Goals as goal

pub pulls-init : goal.pulls-init
pulls-init g c =
    record {
      read = rw c.decode-turn.ensures.reader (HasRead-turn c.decode-turn.ensures.turn);
      counted = rw c.decode-turn.ensures.reader (HasCounted-turn c.decode-turn.ensures.turn
          c.decode-turn.ensures.counts);
      full = c.decode-turn.ensures.full;
      within = search rules;
      rest = search rules;
      none = search rules;
      room = search rules;
      buffer_len = search rules;
      going = search rules;
      had_errors = search rules;
      kept = search rules;
      same_reader = search rules;
    }

pub pulls-preserved : goal.pulls-preserved
pulls-preserved g c =
    let invariant = c.pulls.invariant in
    let none : take c.pulls.turn.written c.pulls.dst ≡ [] =
    ap (λ n. take n c.pulls.dst) (invariant.none c.pulls-test.true) in
    let waited = rw (none, c.pulls-test.true) at invariant.read in
    let waited_counted = rw (none, c.pulls-test.true) at invariant.counted in
    record {
      read = rw c.decode-turn-in-pulls.ensures.reader
          (HasRead-more waited c.in_ok-pull.ensures.ok.pulls c.decode-turn-in-pulls.ensures.turn);
      counted = rw c.decode-turn-in-pulls.ensures.reader
          (HasCounted-more waited_counted c.in_ok-pull.ensures.ok
          c.decode-turn-in-pulls.ensures.turn c.decode-turn-in-pulls.ensures.counts);
      full = subst (λ n. FillsRoom n c.decode-turn-in-pulls.result.written
          (state_of c.decode-turn-in-pulls.new.self)) invariant.room
          c.decode-turn-in-pulls.ensures.full;
      within = search rules;
      rest = search rules;
      none = search rules;
      room = search rules;
      buffer_len = search rules;
      going = search rules;
      had_errors = search rules;
      kept = search rules;
      same_reader = search rules;
    }

pub returns-clause-counted : goal.returns-clause-counted
returns-clause-counted g c =
    let counted = rw c.pulls-test.false at c.pulls.invariant.counted in
    HandsOutCounted-read counted (ap (λ b. b || c.pulls.replaced) c.pulls.invariant.had_errors)
    c.pulls.self.exhausted

pub returns-then-pulls-clause-reader_fault : goal.returns-then-pulls-clause-reader_fault
returns-then-pulls-clause-reader_fault g c =
    let invariant = c.pulls.invariant in
    let none : take c.pulls.turn.written c.pulls.dst ≡ [] =
    ap (λ n. take n c.pulls.dst) (invariant.none c.pulls-test.true) in
    let waited = rw (none, c.pulls-test.true) at invariant.read in
    λ _. FailsToRead-waiting waited (c.args.self.now.going c.if-self.false)
    (inr (omega (arith, waited.enough refl, c.if-pulls.true)))

pub returns-in_err-pull-clause-reader_fault : goal.returns-in_err-pull-clause-reader_fault
returns-in_err-pull-clause-reader_fault g c =
    let invariant = c.pulls.invariant in
    let failed = c.in_err-pull.ensures in
    let none : take c.pulls.turn.written c.pulls.dst ≡ [] =
    ap (λ n. take n c.pulls.dst) (invariant.none c.pulls-test.true) in
    let waited = rw (none, c.pulls-test.true) at invariant.read in
    λ _. rw failed.same
    (FailsToRead-kept _ _ _ failed.none_given
    (FailsToRead-waiting waited (c.args.self.now.going c.if-self.false) (inl failed.err)))
