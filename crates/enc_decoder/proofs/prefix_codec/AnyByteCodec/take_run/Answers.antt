use Rattle.std.proofs.Common.{ap, sym, ◌∙◌}
use Rattle.enc_decoder.specs.Pending.{bytes_of_pending}
use Rattle.enc_decoder.specs.Prefixes.{prefix_state}
use Rattle.enc_decoder.proofs.PieceLemmas.{takes_pieces}
use Rattle.enc_decoder.proofs.TakingLemmas.{takes_none}
use Rattle.enc_decoder.proofs.prefix_codec.AnyByteCodec.take_run.Goals as goal

pub returns-in-Nothing : goal.returns-in-Nothing
returns-in-Nothing g c =
    takes_pieces g.U.Units.units_of
    (λ d. prefix_state (g.C.PrefixCodec.prefix d) (bytes_of_pending (g.C.PrefixCodec.waiting d)))
    c.args.self _ _ _ _
    (ap bytes_of_pending (sym c.waiting.ensures ∙ c.in-Nothing.is)) c.put_front.ensures

pub returns-in_default : goal.returns-in_default
returns-in_default g c =
    takes_none g.U.Units.units_of
    (λ d. prefix_state (g.C.PrefixCodec.prefix d) (bytes_of_pending (g.C.PrefixCodec.waiting d)))
    c.args.self c.args.src.now (g.U.Units.output c.args.out.now)
