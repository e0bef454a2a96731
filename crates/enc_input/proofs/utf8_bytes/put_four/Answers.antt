use Rattle.std.proofs.Common.{◌∙◌, ◌/◌, ◌^◌, refl, arith, length-set}
use Rattle.enc_utf8.proofs.EndsLemmas.{end_is, end_next}
use Rattle.enc_input.proofs.Utf8BytesLemmas.{four_further}
use Rattle.enc_input.proofs.WriteLoopLemmas.{writes_none}
use Rattle.enc_input.proofs.utf8_bytes.put_four.Goals as goal

pub loop-count-init : goal.loop-count-init
loop-count-init g c = (
  omega arith,
  refl,
  omega arith,
  omega arith,
  refl,
  λ text long lanes utf8. writes_none (omega arith) utf8,
)

pub loop-count-preserved : goal.loop-count-preserved
loop-count-preserved g c =
    let invariant = c.loop-count.invariant in
    let read = c.loop-count.read in
    let found = c.unit_byte-byte.ensures in
    let next = end_is (c.args.lanes.now.leads / 2 ^ c.args.place) c.loop-count.count read _
    c.ends_of-ends.ensures c.loop-count-test.true invariant.1 (omega arith) in (
      omega arith,
      end_next c.ends_of-ends.result c.loop-count.count,
      omega (arith, invariant.2, next),
      omega (arith, invariant.3, next),
      length-set c.loop-count.dst _ c.unit_byte-byte.result ∙ invariant.4,
      λ text long lanes utf8. four_further lanes long c.args.place c.unit_byte-byte.result
          (omega arith) next
          (invariant.5 text long lanes utf8) (omega arith) (found.means (omega arith)) found.last
          (omega arith),
    )
