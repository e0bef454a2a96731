use Rattle.enc_utf8.proofs.LengthLemmas.{rest_is}
use Rattle.enc_input.proofs.Utf8MappedLemmas.{own_written}
use Rattle.enc_input.proofs.WriteLoopLemmas.{writes_on}
use Rattle.enc_input.proofs.ways.ByUnitTurns.put_utf8.Goals as goal
use Rattle.enc_input.proofs.ways.ByUnitTurns.put_utf8.Goals.{then-src-lt128, else-src-lt128}

pub put_by_lanes-more-requires-clause-utf8 : goal.put_by_lanes-more-requires-clause-utf8
put_by_lanes-more-requires-clause-utf8 g c = elim c.if-src-lt128.branch [
  | then-src-lt128 w ↦
      rw (rest_is, w.len-is) (own_written c.requires.utf8 w.put_ascii-len.ensures).rest
  | else-src-lt128 w ↦ rw (rest_is, w.len-is) w.put_utf8_char.ensures.rest
]

pub returns-clause-writes : goal.returns-clause-writes
returns-clause-writes g c = elim c.if-src-lt128.branch [
  | then-src-lt128 w ↦
      writes_on
      (rw (w.dst-is, w.len-is) (own_written c.requires.utf8 w.put_ascii-len.ensures))
      c.put_by_lanes-more.ensures
  | else-src-lt128 w ↦
      writes_on (rw (w.dst-is, w.len-is) w.put_utf8_char.ensures) c.put_by_lanes-more.ensures
]
