use Rattle.std.proofs.Common.{None, ◌∙◌, ap, arith}
use Rattle.enc_decoder_iso_2022_jp.specs.Iso2022JpState.{state_with_held, iso_2022_jp_state}
use Rattle.enc_decoder_iso_2022_jp.proofs.Iso2022JpPieces.{takes_escape, takes_no_pieces}
use Rattle.enc_decoder.proofs.TakingLemmas.{takes_none}
use Rattle.enc_decoder_iso_2022_jp.proofs.runs.take_escape.Goals as goal

pub returns-clause-run : goal.returns-clause-run
returns-clause-run g c =
    takes_escape g.U.Units.units_of c.args.decoder c.with_held-next.result c.in-Some.escape
    c.requires.none_held
    (c.with_held-next.ensures ∙ ap (λ s. state_with_held s None) c.set.ensures)
    c.split_at.ensures.back
    c.in-Some.ensures
    (omega (arith, c.if-taken-eq0.false)) c.put_in_set-taken.ensures

pub returns-in_default-clause-run : goal.returns-in_default-clause-run
returns-in_default-clause-run g c =
    takes_none g.U.Units.units_of iso_2022_jp_state c.args.decoder c.args.src.now
    (g.U.Units.output c.args.out.now)

pub returns-then-taken-eq0-clause-run : goal.returns-then-taken-eq0-clause-run
returns-then-taken-eq0-clause-run g c =
    takes_no_pieces c.args.decoder c.args.src.now c.put_in_set-taken.ensures c.if-taken-eq0.true
