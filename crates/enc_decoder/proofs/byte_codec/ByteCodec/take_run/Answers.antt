use Rattle.enc_decoder.proofs.TakingLemmas.{takes_none}
use Rattle.enc_decoder.proofs.byte_codec.ByteCodec.take_run.Goals as goal

pub returns : goal.returns
returns g c =
    takes_none g.U.Units.units_of g.Self.ByteCodec.state c.args.self c.args.src.now
    (g.U.Units.output c.args.out.now)
