use Rattle.std.proofs.Common.{subst, sym}
use Rattle.enc_reader.specs.declared.line_reader_fault.LineReaderFault.TheVariants.{Memory}
use Rattle.enc_reader.specs.Lines.{line_state_of, StopsLine}
use Rattle.enc_reader.proofs.PlacedLineLemmas.{StopsLine-memory}
use Rattle.enc_reader.proofs.TakenItemLemmas.{TakesItems-none}
use Rattle.enc_reader.proofs.line_reader.LineReader.take_held.Goals as goal

pub returns-in-Err-clause-err : goal.returns-in-Err-clause-err
returns-in-Err-clause-err g c =
    let lines = c.args.self.now in
    subst
    (λ r. StopsLine lines.policy (g.R.Source.remaining lines.reader.reader.now)
    (g.R.Source.remaining r.reader.now) (line_state_of lines) (line_state_of c.take_text.new.self)
    c.args.line.now c.take_text.new.line (g.R.Source.has_failed lines.reader.reader.now)
    (g.R.Source.has_failed r.reader.now) Memory)
    (sym c.take_text.ensures.reader)
    (StopsLine-memory (TakesItems-none _ _) c.in-Err.ensures.err.0 c.in-Err.ensures.err.1)
