use Rattle.std.proofs.Common.{rules, ◌≡◌, ◌-◌, take, drop, None, ap, arith, refl, subst, sym}
use Rattle.enc_reader.specs.declared.decode_reader.ReadFault.TheVariants.{Failed}
use Rattle.enc_reader.specs.Reader.{state_of}
use Rattle.enc_reader.specs.Reporting.{part_items}
use Rattle.enc_reader.specs.Lines.{line_state_of, FailsToFill}
use Rattle.enc_reader.proofs.TakenItemLemmas.{lines_at, TakesItems-none, TakesItems-reported}
use Rattle.enc_reader.proofs.TakenItemLemmas.{none_held, FailsToFill-reader, FailsToFill-before}
use Rattle.enc_reader.proofs.TakenItemLemmas.{by_read_fault}
use Rattle.enc_reader.proofs.line_reader.LineReader.fill.Goals as goal

pub returns-then-self-clause-takes : goal.returns-then-self-clause-takes
returns-then-self-clause-takes g c = TakesItems-none _ _

pub returns-in-Err-clause-err : goal.returns-in-Err-clause-err
returns-in-Err-clause-err g c =
    let lines = c.args.self.now in
    let dst = c.read_reporting.new.dst in
    let unreported : lines.malformed ≡ None = search rules in
    let none = none_held (drop lines.at lines.text.now) (lines.filled - lines.at) lines.malformed
    (omega (arith, c.if-self.false)) unreported in
    let none_now = none_held dst 0 lines.malformed refl unreported in
    by_read_fault
    (λ fault. FailsToFill (g.R.Source.remaining lines.reader.reader.now)
    (g.R.Source.remaining c.read_reporting.new.self.reader.now) (line_state_of lines)
    (lines_at (state_of c.read_reporting.new.self) c.read_reporting.new.self.given
    (part_items (take 0 dst) lines.malformed) lines.position)
    (g.R.Source.has_failed lines.reader.reader.now)
    (g.R.Source.has_failed c.read_reporting.new.self.reader.now) fault)
    c.read_reporting.result c.in-Err.fault c.in-Err.is
    (λ reader. FailsToFill-reader _ _ none lines.position none_now
    (c.read_reporting.ensures.reader_fault reader))
    (λ failed. subst
    (λ r. FailsToFill (g.R.Source.remaining lines.reader.reader.now)
    (g.R.Source.remaining r.reader.now) (line_state_of lines)
    (lines_at (state_of r) r.given (part_items (take 0 dst) lines.malformed) lines.position)
    (g.R.Source.has_failed lines.reader.reader.now) (g.R.Source.has_failed r.reader.now) Failed)
    (sym (c.read_reporting.ensures.unchanged failed))
    (FailsToFill-before _ _ _ _ lines.position _ _ none none_now))

pub returns-in-Ok-clause-takes : goal.returns-in-Ok-clause-takes
returns-in-Ok-clause-takes g c =
    let lines = c.args.self.now in
    let dst = c.read_reporting.new.dst in
    let written = c.in-Ok.reported.written in
    let unreported : lines.malformed ≡ None = search rules in
    let none = none_held (drop lines.at lines.text.now) (lines.filled - lines.at) lines.malformed
    (omega (arith, c.if-self.false)) unreported in
    let all : written - 0 ≡ written = omega arith in
    TakesItems-reported _ _ none lines.position
    (ap (λ n. part_items (take n dst) c.in-Ok.reported.malformed) all) c.in-Ok.ensures.ok

pub returns-in-Ok-clause-end : goal.returns-in-Ok-clause-end
returns-in-Ok-clause-end g c = λ none unreported. record {
  none_held = none_held _ _ _ (omega (arith, none)) unreported;
  reader = c.in-Ok.ensures.end (omega (arith, none)) unreported;
}
