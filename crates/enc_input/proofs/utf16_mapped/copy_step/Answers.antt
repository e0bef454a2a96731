use Rattle.std.proofs.Common.{◌≡◌, arith, length, take}
use Rattle.std.proofs.lemmas.List.{map-id}
use Rattle.std.proofs.lemmas.Simd.{Each1-from_get_or}
use Rattle.enc_utf8.proofs.LengthLemmas.{lengths}
use Rattle.enc_input.proofs.Utf16MappedLemmas.{all_ascii, copies_first}
use Rattle.enc_input.proofs.utf16_mapped.copy_step.Goals as goal

pub overflow_cast-dst : goal.overflow_cast-dst
overflow_cast-dst g c =
    let front = take g.row.N c.args.src.now in
    let long : length front ≡ g.row.N = omega (arith, lengths) in
    let ascii = all_ascii front long (omega arith) c.ascii_units.ensures.ascii in
    Each1-from_get_or _ front 0 (λ i inside. let low = ascii i 0 inside in omega (arith, low))

pub returns : goal.returns
returns g c =
    let front = take g.row.N c.args.src.now in
    let long : length front ≡ g.row.N = omega (arith, lengths) in
    let ascii = all_ascii front long (omega arith) c.ascii_units.ensures.ascii in
    copies_first g.row.N c.args.most c.args.src.now c.args.dst.now c.requires.read
    c.requires.room (omega arith) (map-id _) ascii
