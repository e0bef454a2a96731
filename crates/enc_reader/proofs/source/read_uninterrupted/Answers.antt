use Rattle.std.specs.declared.io.Error.{Error}
use Rattle.enc_reader.proofs.SourceLemmas.{ReadConsumes-kept}
use Rattle.enc_reader.proofs.source.read_uninterrupted.Goals as goal

pub returns-in-Some-clause-read : goal.returns-in-Some-clause-read
returns-in-Some-clause-read g c =
    rw c.in-Some.ensures.same
    (ReadConsumes-kept {E = Error} _ _ _ c.read.result c.read.new.buf c.loop.invariant.kept
    c.read.ensures.bytes)
