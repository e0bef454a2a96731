use Rattle.std.proofs.Common.{arith}
use Rattle.enc_input.proofs.WriteLoopLemmas.{writes_one}
use Rattle.enc_input.proofs.utf8_mapped.put_beyond.Goals as goal

pub returns : goal.returns
returns g c =
    let first = c.found_at-found.ensures.first in
    let put = c.put_bytes.ensures in
    writes_one c.in-Some.ensures first.within first.utf8 first.chars (record {
      count = put.count;
      fits = omega (arith, put.few);
      onto = put.put;
    })
