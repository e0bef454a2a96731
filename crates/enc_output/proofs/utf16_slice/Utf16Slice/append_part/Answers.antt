use Rattle.std.proofs.Common.{◌≡◌, ◌-◌, ◌≤◌, length, take, drop, ap, ◌∙◌, ◌++◌, sym, arith}
use Rattle.std.proofs.Common.{take-append-drop, subst}
use Rattle.std.proofs.lemmas.List.{take-take}
use Rattle.enc_output.specs.Output.{borrowed_output, with_appended}
use Rattle.enc_utf8.specs.Validity.{IsWellFormedUtf8}
use Rattle.enc_output.proofs.Utf8SliceLemmas.{grown}
use Rattle.enc_output.proofs.Utf8TextLemmas.{puts_units}
use Rattle.enc_utf8.proofs.LengthLemmas.{lengths}
use Rattle.enc_utf8.proofs.PutLemmas.{put_copied}
use Rattle.enc_output.proofs.utf16_slice.Utf16Slice.append_part.Goals as goal

pub returns : goal.returns
returns c =
    let slice = c.args.self.now in
    let count = c.write_units-written.result in
    let new = c.write_units-written.new.dst in
    let written = c.write_units-written.ensures in
    let part = take (length slice.dst.now - slice.len) (drop slice.len slice.dst.now) in
    let room : length part ≡ length slice.dst.now - slice.len = omega (arith, lengths) in
    let read : count ≤ length new = omega (arith, written.bound, written.len) in
    let copied : new ≡ take count new ++ drop count part = sym (take-append-drop count new)
    ∙ ap (λ z. take count new ++ z) written.rest in
    let src = c.args.src.now in
    let taken = c.utf8_front-taken.result in
    let valid = c.utf8_front-taken.ensures in
    let most = c.min-most.result in
    let few : taken ≤ most = omega (arith, lengths, valid.within) in
    puts_units _ _ src taken (omega (arith, lengths))
    (omega (arith, lengths, written.bound, ap length written.written))
    (subst IsWellFormedUtf8 (take-take taken most src few) valid.utf8)
    (grown slice.dst.ghost_name (put_copied slice.len count slice.dst.now new new (omega arith) read
    (omega (arith, written.bound, room)) copied)
    ∙ ap (with_appended (borrowed_output slice.len slice.dst)) written.written)
