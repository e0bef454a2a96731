use Rattle.enc_encoder.proofs.RunLemmas.{writes_none}
use Rattle.enc_encoder.proofs.char_encoder.CharEncoder.write_run.Goals as goal

pub returns : goal.returns
returns g c = writes_none (g.Self.CharEncoder.state c.args.self)
    (g.C.Chars.rest c.args.src.now) c.args.dst.now c.args.from c.requires.room
