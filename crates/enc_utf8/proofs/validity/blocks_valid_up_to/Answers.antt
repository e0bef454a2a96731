-- The well-formed bytes in front, and the longest prefix of the rest.
use Rattle.enc_utf8.proofs.Utf8PrefixLemmas.{longest_after}
use Rattle.enc_utf8.proofs.validity.blocks_valid_up_to.Goals as goal

pub returns : goal.returns
returns c =
    let front = c.utf8_front-front.ensures in
    longest_after c.args.bytes.now _ _ front.within front.utf8 c.chars_valid_up_to.ensures
