use Rattle.std.proofs.Common.{Some, refl}
use Rattle.enc_decoder_iso_2022_jp.specs.declared.iso_2022_jp.Held.TheVariants.{Start}
use Rattle.enc_decoder_iso_2022_jp.proofs.Iso2022JpUndetermined.{undetermined}
use Rattle.enc_decoder_iso_2022_jp.proofs.handler.step_whole.Goals as goal

pub returns-then-byte-eq27 : goal.returns-then-byte-eq27
returns-then-byte-eq27 c =
    rw (c.with_held.ensures, c.if-byte-eq27.true)
    (refl, undetermined c.args.set (Start (Some c.args.escape)) tt (λ b q. cc))
