use Rattle.std.proofs.Common.{◌∙◌, ap, sym, arith}
use Rattle.enc_decoder_iso_2022_jp.specs.Iso2022JpState.{Iso2022JpState, bytes_of_held, iso_2022_jp_state}
use Rattle.enc_decoder.proofs.PieceLemmas.{takes_pieces}
use Rattle.enc_decoder.proofs.TakingLemmas.{takes_none, takes_both}
use Rattle.enc_decoder_iso_2022_jp.proofs.iso_2022_jp.Iso2022JpDecoderByteCodec.take_run.Goals as goal

pub returns-in_default : goal.returns-in_default
returns-in_default g c =
    takes_none g.U.Units.units_of iso_2022_jp_state c.args.self c.args.src.now
    (g.U.Units.output c.args.out.now)

pub returns-then-not-is_seven_bit : goal.returns-then-not-is_seven_bit
returns-then-not-is_seven_bit g c =
    takes_none g.U.Units.units_of iso_2022_jp_state c.args.self c.args.src.now
    (g.U.Units.output c.args.out.now)

pub loop-state-init : goal.loop-state-init
loop-state-init g c =
    let none = ap (λ (s : Iso2022JpState). s.held) (sym c.self.view_is) ∙ c.in-None.is in
    record {
      run = takes_pieces g.U.Units.units_of iso_2022_jp_state c.args.self _ _ _ _
          (ap bytes_of_held none)
          c.put_before_escape-read.ensures;
      none_held = none;
    }

pub split_at-requires : goal.split_at-requires
split_at-requires g c = c.loop-state.invariant.run.run.within

pub take_escape-next-requires : goal.take_escape-next-requires
take_escape-next-requires g c = record { none_held = c.loop-state.invariant.none_held }

pub returns-then-taken-eq0 : goal.returns-then-taken-eq0
returns-then-taken-eq0 g c =
    takes_both c.split_at.ensures.back c.loop-state.invariant.run
    c.take_escape-next.ensures.run

pub loop-state-smaller : goal.loop-state-smaller
loop-state-smaller g c =
    let run = takes_both c.split_at.ensures.back c.loop-state.invariant.run
    c.take_escape-next.ensures.run in
    omega (arith, run.run.within, c.if-taken-eq0.false)

pub loop-state-preserved : goal.loop-state-preserved
loop-state-preserved g c = record {
  run = takes_both c.split_at.ensures.back c.loop-state.invariant.run
      c.take_escape-next.ensures.run;
  none_held = c.take_escape-next.ensures.none_held;
}
