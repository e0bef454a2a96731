use Rattle.std.proofs.Common.{ap, ℕ, List}
use Rattle.enc_writer.specs.Utf16Writing.{Utf16WriterState}
use Rattle.enc_writer.proofs.Utf16WritingLemmas.{state_of}
use Rattle.enc_writer.proofs.utf16_writer.Utf16Writer.with_bom.Goals as goal

pub returns-clause-marked : goal.returns-clause-marked
returns-clause-marked g c =
    ap (state_of c.args.order) c.store_units.ensures.stored
