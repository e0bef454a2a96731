use Rattle.std.proofs.Common.{◌≤◌, subst, arith}
use Rattle.std.proofs.lemmas.List.{take-take}
use Rattle.enc_utf8.proofs.LengthLemmas.{lengths}
use Rattle.enc_utf8.specs.Validity.{IsWellFormedUtf8}
use Rattle.enc_output.proofs.Utf8CharsLemmas.{puts_utf8}
use Rattle.enc_output.proofs.Utf8SliceLemmas.{grown}
use Rattle.std.proofs.Common.{sym}
use Rattle.std.proofs.lemmas.List.{length-take-le}
use Rattle.enc_utf8.proofs.PutLemmas.{put_part}
use Rattle.enc_output.proofs.utf8_slice.Utf8Slice.append_part.Goals as goal

pub returns : goal.returns
returns c =
    let slice = c.args.self.now in
    let src = c.args.src.now in
    let taken = c.utf8_front-taken.result in
    let valid = c.utf8_front-taken.ensures in
    let most = c.min-most.result in
    let least = c.min-most.ensures in
    let few : taken ≤ most = omega (arith, lengths, valid.within) in
    puts_utf8 _ _ src taken (omega arith) (omega arith)
    (subst IsWellFormedUtf8 (take-take taken most src few) valid.utf8)
    (grown slice.dst.ghost_name (put_part slice.len taken slice.dst.now
    c.copy_from_slice.ensures.after (sym (length-take-le taken src (omega arith))) (omega arith)))
