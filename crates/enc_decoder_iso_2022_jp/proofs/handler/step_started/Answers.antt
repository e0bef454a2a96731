use Rattle.std.proofs.Common.{refl}
use Rattle.enc_decoder_iso_2022_jp.specs.declared.iso_2022_jp.Held.TheVariants.{Whole}
use Rattle.enc_decoder_iso_2022_jp.proofs.Iso2022JpUndetermined.{undetermined}
use Rattle.enc_decoder_iso_2022_jp.proofs.Iso2022JpComes.{shows_repeated}
use Rattle.enc_decoder_iso_2022_jp.proofs.handler.step_started.Goals as goal

pub returns-in-None : goal.returns-in-None
returns-in-None c =
    rw (c.in-None.is, c.with_held.ensures) (
      rw c.in-Some.ensures.some refl,
      undetermined c.args.set (Whole c.in-Some.escape) tt
          (λ b q. cc),
    )

pub returns-in-Some-before : goal.returns-in-Some-before
returns-in-Some-before c =
    rw (c.in-Some-before.is, c.report_escape.ensures)
    (shows_repeated c.args.set c.in-Some-before.first c.in-Some.escape c.args.intermediate
    c.args.byte c.in-Some.ensures.some)
