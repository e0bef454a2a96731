use Rattle.std.proofs.Common.{arith}
use Rattle.enc_input.proofs.CharsLemmas.{beyond_ascii}
use Rattle.enc_input.proofs.WriteLoopLemmas.{writes_one}
use Rattle.enc_input.proofs.utf16_mapped.put_beyond.Goals as goal

pub bytes_in_run-requires : goal.bytes_in_run-requires
bytes_in_run-requires g c =
    record { beyond_ascii = beyond_ascii c.args.src.now _ _ c.in-Some.ensures c.requires.beyond }

pub returns : goal.returns
returns g c =
    let first = c.in-Some.ensures in
    let put = c.put_bytes.ensures in
    writes_one c.in-Some-bytes_in_run.ensures first.within tt first.chars (record {
      count = put.count;
      fits = omega (arith, put.few);
      onto = put.put;
    })
