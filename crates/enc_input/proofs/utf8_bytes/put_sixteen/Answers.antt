use Rattle.enc_input.proofs.Utf8BytesLemmas.{of_rest}
use Rattle.enc_input.proofs.WriteLoopLemmas.{writes_then}
use Rattle.enc_input.proofs.utf8_bytes.put_sixteen.Goals as goal

pub returns-clause-writes : goal.returns-clause-writes
returns-clause-writes g c =
    writes_then c.put_eight-first.ensures.writes
    (of_rest c.args.src.now c.args.from _ c.put_eight-second.ensures.writes)
