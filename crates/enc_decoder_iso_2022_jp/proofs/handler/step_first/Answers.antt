use Rattle.std.proofs.Common.{None, refl, sym, ◌∙◌}
use Rattle.enc_decoder_iso_2022_jp.specs.declared.iso_2022_jp.Held.TheVariants.{Lead, Start}
use Rattle.enc_decoder_iso_2022_jp.proofs.Iso2022JpLemmas.{differs}
use Rattle.enc_decoder_iso_2022_jp.proofs.Iso2022JpUndetermined.{undetermined}
use Rattle.enc_decoder_iso_2022_jp.proofs.Iso2022JpComes.{shows_alone}
use Rattle.enc_decoder_iso_2022_jp.proofs.handler.step_first.Goals as goal

pub returns-then-byte-eq27 : goal.returns-then-byte-eq27
returns-then-byte-eq27 c =
    rw (c.with_held.ensures, c.if-byte-eq27.true)
    (refl, undetermined c.args.set (Start None) tt (λ b q. cc))

pub returns-then-is_lead_byte : goal.returns-then-is_lead_byte
returns-then-is_lead_byte c =
    rw c.with_held-then-is_lead_byte.ensures (
      refl,
      undetermined c.args.set (Lead c.args.byte)
          (sym c.is_lead_byte.ensures ∙ c.if-is_lead_byte.true) (λ b q. cc),
    )

pub returns-else-is_lead_byte : goal.returns-else-is_lead_byte
returns-else-is_lead_byte c =
    rw (c.show_char.ensures, c.with_held-next.ensures)
    (shows_alone c.args.set c.args.byte _ c.one_byte_char.ensures
    (sym c.is_lead_byte.ensures ∙ c.if-is_lead_byte.false)
    (differs c.args.byte 0x1B c.if-byte-eq27.false))
