use Rattle.std.proofs.Common.{◌∙◌, sym, rules}
use Rattle.enc_decoder.proofs.TakingLemmas.{takes_nothing}
use Rattle.enc_decoder.proofs.ReplacedCharLemmas.{one_more}
use Rattle.enc_decoder.proofs.replaced.replace_some.Goals as goal

pub loop-at-init : goal.loop-at-init
loop-at-init g c =
    takes_nothing g.U.Units.units_of (g.C.ByteCodec.state c.args.codec) c.args.src.now
    (g.U.Units.output c.args.out.now)

pub returns-then-not-put : goal.returns-then-not-put
returns-then-not-put g c =
    rw (c.put.ensures.unchanged c.if-not-put.true) c.loop-at.invariant

pub loop-at-preserved : goal.loop-at-preserved
loop-at-preserved g c =
    let found = c.in-Some.ensures in
    let was_put = c.if-not-put.false in
    one_more _ c.requires.none_pending c.loop-at.invariant found.some found.within found.first
    (search rules)
    (sym c.put.ensures.fits ∙ was_put) (c.put.ensures.written was_put)
