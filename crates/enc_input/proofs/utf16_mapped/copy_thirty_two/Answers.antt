use Rattle.std.proofs.Common.{arith, drop, take}
use Rattle.std.proofs.lemmas.List.{map-id}
use Rattle.std.proofs.lemmas.Simd.{Each1-from_get_or}
use Rattle.enc_utf8.proofs.AsciiLemmas.{copies_more}
use Rattle.enc_input.proofs.Utf16MappedLemmas.{both_halves, copies_first}
use Rattle.enc_input.proofs.utf16_mapped.copy_thirty_two.Goals as goal

pub overflow_cast-dst : goal.overflow_cast-dst
overflow_cast-dst c =
    let src = c.args.src.now in
    let ascii = both_halves src (omega arith) (omega arith) c.ascii_units.ensures.ascii in
    Each1-from_get_or _ (take 16 src) 0
    (λ i inside. let low = ascii.0 i 0 inside in omega (arith, low))

pub overflow_cast-dst-2 : goal.overflow_cast-dst-2
overflow_cast-dst-2 c =
    let src = c.args.src.now in
    let ascii = both_halves src (omega arith) (omega arith) c.ascii_units.ensures.ascii in
    Each1-from_get_or _ (take 16 (drop 16 src)) 0
    (λ i inside. let low = ascii.1 i 0 inside in omega (arith, low))

pub returns : goal.returns
returns c =
    let src = c.args.src.now in
    let ascii = both_halves src (omega arith) (omega arith) c.ascii_units.ensures.ascii in
    let front = copies_first 16 c.args.most src c.args.dst.now c.requires.read c.requires.room
    (omega arith) (map-id _) ascii.0 in
    copies_more front c.requires.read c.requires.room 16 (omega arith) (map-id _) ascii.1
