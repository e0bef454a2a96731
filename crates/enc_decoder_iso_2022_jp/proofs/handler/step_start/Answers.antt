use Rattle.std.proofs.Common.{[], ◌∷◌, ap}
use Rattle.enc_decoder_iso_2022_jp.specs.declared.iso_2022_jp.Held.TheVariants.{Started}
use Rattle.enc_decoder_iso_2022_jp.specs.Iso2022Jp.{set_number, iso_2022_jp_rule}
use Rattle.enc_decoder_iso_2022_jp.specs.Iso2022JpState.{intermediate_byte}
use Rattle.enc_decoder_iso_2022_jp.proofs.Iso2022JpComes.{escape_and_bytes-append}
use Rattle.enc_decoder_iso_2022_jp.proofs.Iso2022JpUndetermined.{undetermined}
use Rattle.enc_decoder_iso_2022_jp.proofs.handler.step_start.Goals as goal

pub returns-in-Some : goal.returns-in-Some
returns-in-Some c =
    rw (c.with_held.ensures, c.in-Some.ensures.some) (
      ap (λ p. record { rule = iso_2022_jp_rule; set = set_number c.args.set; pending = p })
          (escape_and_bytes-append c.args.before (0x1B ∷ [])
          (intermediate_byte c.in-Some.intermediate ∷ [])),
      undetermined c.args.set (Started c.args.before c.in-Some.intermediate) tt (λ b q. cc),
    )
