use Rattle.enc_encoder.proofs.BegunLemmas.{begins}
use Rattle.enc_encoder.proofs.raw_encoder.RawEncoder.encode.Goals as goal

pub returns-clause-call : goal.returns-clause-call
returns-clause-call g c = c.encode_on.ensures.call
    (begins c.args.last c.unread-given.ensures c.write_first-written.ensures.run)
