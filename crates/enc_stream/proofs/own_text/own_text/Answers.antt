use Rattle.enc_stream.proofs.OwnTextLemmas.{own_utf_8}
use Rattle.enc_stream.proofs.own_text.own_text.Goals as goal

pub from_utf8_unchecked-requires : goal.from_utf8_unchecked-requires
from_utf8_unchecked-requires c =
    own_utf_8 c.args.encoding c.args.bytes.now
    (c.are_their_own_text.ensures.0 c.if-are_their_own_text.true)
