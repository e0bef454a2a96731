use Rattle.std.proofs.Common.{length, ap, ◌∙◌, sym, arith}
use Rattle.enc_output.specs.Output.{borrowed_output, with_appended}
use Rattle.enc_output.proofs.Utf8SliceLemmas.{grown}
use Rattle.enc_output.proofs.Utf8TextLemmas.{puts_units}
use Rattle.enc_utf8.proofs.PutLemmas.{put_one}
use Rattle.enc_output.proofs.utf16_slice.Utf16Slice.append_narrow.Goals as goal

pub returns : goal.returns
returns c =
    let slice = c.args.self.now in
    let found = c.in-Some.ensures in
    puts_units _ _ c.args.src.now c.in-Some.len found.within (omega (arith, ap length found.unit))
    found.utf8
    (grown slice.dst.ghost_name (put_one slice.len c.in-Some.unit slice.dst.now (omega arith))
    ∙ ap (with_appended (borrowed_output slice.len slice.dst)) (sym found.unit))
