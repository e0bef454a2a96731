use Rattle.enc_reader.proofs.LendingLemmas.{own_is_utf_8}
use Rattle.enc_reader.proofs.decode_reader.DecodeReader.text_ahead.Goals as goal

pub returns-then-eq-clause-longest : goal.returns-then-eq-clause-longest
returns-then-eq-clause-longest g c =
    λ n longer within is_own.
    c.utf_8_len.ensures.longest n longer within
    (own_is_utf_8 c.args.self.now.decoder is_own.own)
