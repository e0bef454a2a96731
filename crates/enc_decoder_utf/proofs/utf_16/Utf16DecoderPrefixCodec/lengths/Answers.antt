use Rattle.std.proofs.Common.{false, refl}
use Rattle.enc_decoder.specs.Pending.{bytes_of_pending}
use Rattle.enc_decoder.proofs.PrefixLemmas.{kept_incomplete}
use Rattle.enc_decoder_utf.specs.Utf16.{utf_16_prefix}
use Rattle.enc_decoder_utf.proofs.Utf16Enough.{utf_16_enough}
use Rattle.enc_decoder_utf.proofs.utf_16.Utf16DecoderPrefixCodec.lengths.Goals as goal

pub returns-clause-enough : goal.returns-clause-enough
returns-clause-enough c = rw (← c.self.view_is)
    (utf_16_enough _ (kept_incomplete (utf_16_prefix c.self.inside.big_endian) false
    (bytes_of_pending c.self.inside.pending) c.self.invariant refl))
