use Rattle.std.proofs.Common.{refl}
use Rattle.std.proofs.Common.{◌≡◌, ◌∙◌, ◌+◌, ◌-◌, ◌≤◌, ◌++◌, length, take, ap, arith}
use Rattle.enc_output.specs.Utf8Units.{units_from}
use Rattle.enc_utf8.proofs.LengthLemmas.{lengths}
use Rattle.enc_utf8.proofs.PutLemmas.{put_length, put_front, put_rest, put_part}
use Rattle.enc_output.proofs.UnitsWrittenLemmas.{written_further}
use Rattle.enc_output.proofs.Utf8UnitsLemmas.{units_further, units_parts}
use Rattle.enc_output.proofs.utf8_units.write_units.Goals as goal

pub returns-clause-written : goal.returns-clause-written
returns-clause-written c =
    let all : c.loop-read.read ≡ c.args.len = omega arith in
    c.loop-read.invariant.1.front ∙ ap (units_from c.args.src.now 0) all

pub loop-read-preserved : goal.loop-read-preserved
loop-read-preserved c =
    let state = c.loop-read in
    let written = state.invariant.1 in
    let gathered = c.gather_units-next.ensures in
    let next = c.gather_units-next.result.0 in
    let end = c.gather_units-next.result.1 in
    let part = take end c.gather_units-next.new.buffer in
    let count : end ≡ length part = omega (arith, lengths, gathered.bound) in
    let room : state.written + end ≤ length state.dst =
    omega (arith, gathered.few, gathered.within, written.few, written.long) in
    let put = put_part state.written end state.dst c.copy_from_slice.ensures.after count room in
    let long = put_length put in
    let more = next - state.read in
    let whole : state.read + more ≡ next = omega (arith, gathered.some) in
    let stored = put_front put
    ∙ ap (λ z. take state.written state.dst ++ z) gathered.gathered in
    let front = units_further c.args.src.now 0 state.read state.read more (state.read + more)
    written.front stored (omega arith) refl in
    let all : state.written + end ≤ length (units_from c.args.src.now 0 c.args.len) =
    omega (
      arith,
      lengths,
      ap length front,
      long,
      room,
      whole,
      units_parts c.args.src.now (state.read + more) c.args.len
          (omega (arith, whole, gathered.within)),
    ) in
    let further = written_further more written (omega (arith, whole, gathered.within)) long
    (omega (arith, long, room)) stored (put_rest put _ all) in
    (gathered.len ∙ state.invariant.0, rw whole at further)
