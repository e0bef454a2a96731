use Rattle.std.proofs.Common.{None, Some, refl, arith}
use Rattle.enc_decoder_iso_2022_jp.specs.declared.iso_2022_jp.Held.TheVariants.{Start}
use Rattle.enc_decoder_iso_2022_jp.specs.Iso2022Jp.{set_number}
use Rattle.enc_decoder_iso_2022_jp.proofs.Iso2022JpLemmas.{no_escape_first}
use Rattle.enc_decoder_iso_2022_jp.proofs.Iso2022JpComes.{shows_malformed, shows_skipped}
use Rattle.enc_decoder_iso_2022_jp.proofs.sequences.cut_off_start.Goals as goal

pub returns-in-Some-clause-comes : goal.returns-in-Some-clause-comes
returns-in-Some-clause-comes c =
    rw (c.in-Some.is, c.skip_escape.ensures)
    (shows_skipped c.args.set (Start (Some c.in-Some.escape)) c.in-Some.escape (Some (Start None))
    refl (λ y m. m))

pub returns-in-None-clause-comes : goal.returns-in-None-clause-comes
returns-in-None-clause-comes c =
    rw (c.in-None.is, c.show_char.ensures, c.with_held.ensures)
    (shows_malformed c.args.set (Start None) 0x1B None refl (omega arith)
    (λ y m. no_escape_first (set_number c.args.set) y m))
