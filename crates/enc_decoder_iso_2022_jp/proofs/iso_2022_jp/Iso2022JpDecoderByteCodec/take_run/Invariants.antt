use Rattle.std.proofs.Common.{◌≡◌, ◌-◌, None, length}
use Rattle.enc_decoder_iso_2022_jp.specs.Iso2022JpState.{iso_2022_jp_state}
use Rattle.enc_decoder.specs.Taking.{TakesRun}
use Rattle.enc_decoder_iso_2022_jp.proofs.iso_2022_jp.Iso2022JpDecoderByteCodec.take_run.Given as goal

abbrev pub invariant-loop-state : goal.invariant-loop-state
invariant-loop-state g l = record {
  run : TakesRun g.U.Units.units_of iso_2022_jp_state l.fn.self l.state l.src l.read
      (g.U.Units.output l.fn.out) (g.U.Units.output l.out);
  none_held : l.state.held ≡ None;
}

abbrev pub decreases-loop-state : goal.decreases-loop-state
decreases-loop-state g l = length l.src - l.read
