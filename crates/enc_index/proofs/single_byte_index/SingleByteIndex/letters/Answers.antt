use Rattle.enc_index.proofs.SingleByteLemmas.{single_byte_letters}
use Rattle.enc_index.proofs.single_byte_index.SingleByteIndex.letters.Goals as goal

pub returns : goal.returns
returns c = rw c.listed_letters.ensures (single_byte_letters c.args.self)
