use Rattle.enc_decoder_utf.proofs.utf_16.Utf16DecoderPrefixCodec.put_front.Goals as goal

pub returns : goal.returns
returns g c = rw (← c.self.view_is) c.put_run.ensures
