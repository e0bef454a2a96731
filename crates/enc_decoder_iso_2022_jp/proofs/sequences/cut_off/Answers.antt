use Rattle.std.proofs.Common.{None, Some, refl, subst}
use Rattle.std.proofs.lemmas.List.{append-nil}
use Rattle.enc_decoder_iso_2022_jp.specs.declared.iso_2022_jp.Held.TheVariants.{Whole}
use Rattle.enc_decoder_iso_2022_jp.specs.Iso2022JpState.{CanHold}
use Rattle.enc_decoder_iso_2022_jp.proofs.Iso2022JpComes.{shows_given_back, shows_lead, shows_skipped}
use Rattle.enc_decoder_iso_2022_jp.proofs.sequences.cut_off.Goals as goal

pub returns-in-GivenBack-clause-comes : goal.returns-in-GivenBack-clause-comes
returns-in-GivenBack-clause-comes c =
    rw (c.in-GivenBack.is, c.show_char.ensures, c.with_held.ensures)
    (shows_given_back c.args.set c.in-GivenBack.byte _ c.one_byte_char.ensures
    (subst (λ h. CanHold c.args.set (Some h)) c.in-GivenBack.is c.requires.holds))

pub returns-in-Lead-clause-comes : goal.returns-in-Lead-clause-comes
returns-in-Lead-clause-comes c =
    rw (c.in-Lead.is, c.show_char-in-Lead.ensures, c.with_held-in-Lead.ensures)
    (shows_lead c.args.set c.in-Lead.field-0
    (subst (λ h. CanHold c.args.set (Some h)) c.in-Lead.is c.requires.holds))

pub returns-in-Whole-clause-comes : goal.returns-in-Whole-clause-comes
returns-in-Whole-clause-comes c =
    rw (c.in-Whole.is, c.skip_escape.ensures)
    (shows_skipped c.args.set (Whole c.in-Whole.escape) c.in-Whole.escape None (rw append-nil refl)
    (λ y m. m))
