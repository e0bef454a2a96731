use Rattle.std.proofs.Common.{rules, ◌≡◌, ◌^◌, ◌<◌, false, length, subst, sym, ap, ◌∙◌}
use Rattle.std.specs.Prelude.{Ok}
use Rattle.enc_reader.specs.Lines.{line_state_of, ReadsLine}
use Rattle.example_callers.proofs.PlacedLines.{HasLines, HasLines-start, HasLines-read, ReadsLine-none}
use Rattle.example_callers.proofs.PlacedLines.{text_of_all, malformed_of_all}
use Rattle.example_callers.proofs.streams.read_lines.Goals as goal

pub loop-init : goal.loop-init
loop-init c =
    let reader = c.new-reader.ensures in
    let start = HasLines-start c.args.encoding c.args.bytes.now c.args.policy
    (line_state_of c.new-lines.result) c.new-line.result
    (rw c.new-lines.ensures.reader reader.given) c.new-lines.ensures.none_held
    (rw c.new-lines.ensures.reader reader.items) c.new-lines.ensures.position in
    let same : c.new-lines.result.reader.reader.now.inner.now ≡ c.args.bytes.now =
    search rules in
    record {
      so_far = subst (λ left. HasLines c.args.encoding c.args.bytes.now left c.args.policy
          (line_state_of c.new-lines.result) c.new-line.result c.new-line.result)
          (sym same) start;
      no_text = c.new-line.ensures.text;
      none_malformed = c.new-line.ensures.malformed;
      policy = c.new-lines.ensures.policy;
    }

pub returns-then-not-branch-clause-text : goal.returns-then-not-branch-clause-text
returns-then-not-branch-clause-text c =
    let small : length c.args.bytes.now < 2 ^ 64 = search rules in
    let none : c.in_ok-read_line.field-0 ≡ false = search rules in
    let reads = rw c.loop.invariant.policy at c.in_ok-read_line.ensures.ok in
    text_of_all (HasLines-read small c.loop.invariant.so_far reads
    c.read_line.new.self.reader.exhausted) (ReadsLine-none reads none) c.loop.invariant.no_text

pub returns-then-not-branch-clause-malformed : goal.returns-then-not-branch-clause-malformed
returns-then-not-branch-clause-malformed c =
    let small : length c.args.bytes.now < 2 ^ 64 = search rules in
    let none : c.in_ok-read_line.field-0 ≡ false = search rules in
    let reads = rw c.loop.invariant.policy at c.in_ok-read_line.ensures.ok in
    malformed_of_all (HasLines-read small c.loop.invariant.so_far reads
    c.read_line.new.self.reader.exhausted) (ReadsLine-none reads none)
    c.loop.invariant.none_malformed

pub loop-preserved : goal.loop-preserved
loop-preserved c =
    let small : length c.args.bytes.now < 2 ^ 64 = search rules in
    let reads = rw c.loop.invariant.policy at c.in_ok-read_line.ensures.ok in
    record {
      so_far = HasLines-read small c.loop.invariant.so_far reads
          c.read_line.new.self.reader.exhausted;
      no_text = c.loop.invariant.no_text;
      none_malformed = c.loop.invariant.none_malformed;
      policy = search rules;
    }
