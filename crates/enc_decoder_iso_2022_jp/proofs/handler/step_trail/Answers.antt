use Rattle.enc_decoder_iso_2022_jp.proofs.Iso2022JpLemmas.{differs, lead_in_jis0208}
use Rattle.enc_decoder_iso_2022_jp.proofs.Iso2022JpComes.{shows_pair}
use Rattle.enc_decoder_iso_2022_jp.proofs.handler.step_trail.Goals as goal

pub char_of_pair-requires : goal.char_of_pair-requires
char_of_pair-requires c = record { lead = lead_in_jis0208 c.args.set c.args.lead c.requires.holds }

pub returns-else-byte-eq27 : goal.returns-else-byte-eq27
returns-else-byte-eq27 c =
    rw (c.show_char.ensures, c.with_held-next.ensures)
    (shows_pair c.args.set c.args.lead c.args.byte _ c.char_of_pair.ensures c.requires.holds
    (differs c.args.byte 0x1B c.if-byte-eq27.false))
