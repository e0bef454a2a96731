-- The ASCII in front, and the longest prefix of the rest.
use Rattle.std.proofs.Common.{arith}
use Rattle.enc_utf8.proofs.Utf8PrefixLemmas.{longest_after}
use Rattle.enc_utf8.proofs.UnitsLemmas.{ascii_utf8}
use Rattle.enc_utf8.proofs.validity.utf8_valid_up_to.Goals as goal

pub returns-then-ascii-bytes : goal.returns-then-ascii-bytes
returns-then-ascii-bytes c = record {
  within = c.ascii_len-ascii.ensures.within;
  has = ascii_utf8 c.args.bytes.now c.ascii_len-ascii.result c.ascii_len-ascii.ensures.ascii;
  longest = λ m more fits has. omega arith;
}

pub returns : goal.returns
returns c =
    let bytes = c.args.bytes.now in
    let ascii = c.ascii_len-ascii.ensures in
    let utf8 = ascii_utf8 bytes _ ascii.ascii in
    longest_after bytes _ _ ascii.within utf8 c.blocks_valid_up_to.ensures
