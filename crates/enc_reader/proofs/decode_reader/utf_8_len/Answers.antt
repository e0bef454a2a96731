use Rattle.std.proofs.Common.{arith}
use Rattle.enc_stream.proofs.OwnTextLemmas.{ascii_utf_8}
use Rattle.enc_reader.proofs.decode_reader.utf_8_len.Goals as goal

pub returns-then-ascii-bytes : goal.returns-then-ascii-bytes
returns-then-ascii-bytes c =
    let prefix = c.ascii_valid_up_to-ascii.ensures in
    record {
      within = prefix.within;
      has = ascii_utf_8 _ prefix.has;
      longest = λ m longer within. absurd (omega arith);
    }
