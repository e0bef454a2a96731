use Rattle.enc_output.proofs.AsciiPrefixLemmas.{front_utf8, puts_front}
use Rattle.enc_utf8.proofs.UnitsLemmas.{ascii_units}
use Rattle.enc_output.proofs.string_tail.StringTailUnits.put_ascii.Goals as goal

pub append-requires-clause-utf8 : goal.append-requires-clause-utf8
append-requires-clause-utf8 c =
    let are_ascii = c.ascii_len-len.ensures in
    front_utf8 _ _ _ c.min.result c.split_at.ensures.front are_ascii.within are_ascii.ascii

pub returns : goal.returns
returns c =
    let are_ascii = c.ascii_len-len.ensures in
    puts_front ascii_units c.min.result c.split_at.ensures.front c.min.ensures are_ascii.within
    are_ascii.ascii are_ascii.ends c.append.ensures
