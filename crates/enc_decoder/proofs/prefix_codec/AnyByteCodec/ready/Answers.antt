use Rattle.std.proofs.Common.{refl}
use Rattle.enc_decoder.proofs.PrefixComes.{ready_by}
use Rattle.enc_decoder.proofs.prefix_codec.AnyByteCodec.ready.Goals as goal

pub returns : goal.returns
returns g c =
    ready_by g.C.PrefixCodec.prefix g.C.PrefixCodec.waiting c.args.self c.args.self
    c.shown_first.ensures.lawful refl _ c.shown_first.ensures.shown
    c.shown_first.ensures.incomplete
