use Rattle.enc_decoder_iso_2022_jp.proofs.runs.put_in_set.Goals as goal

pub returns-in-Jis0208 : goal.returns-in-Jis0208
returns-in-Jis0208 g c = rw (← c.decoder.view_is, c.in-Jis0208.is) c.put_pieces.ensures

pub returns-in_default : goal.returns-in_default
returns-in_default g c = rw (← c.decoder.view_is) c.put_pieces-in_default.ensures
