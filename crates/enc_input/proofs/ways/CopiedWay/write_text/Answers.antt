use Rattle.std.proofs.Common.{◌∙◌, ap, sym, arith, take}
use Rattle.std.proofs.lemmas.List.{length-take-le}
use Rattle.enc_utf8.proofs.PutLemmas.{put_part}
use Rattle.enc_input.proofs.Utf8MappedLemmas.{writes_copied}
use Rattle.enc_input.proofs.ways.CopiedWay.write_text.Goals as goal

pub returns : goal.returns
returns g c =
    let len = c.floor_char_boundary-len.result in
    let found = c.floor_char_boundary-len.ensures in
    let copied = c.copy_from_slice.ensures.after ∙ ap (take len) c.as_bytes.ensures.value in
    writes_copied c.laws.ensures c.utf8.text found.boundary
    (put_part c.args.from len c.args.dst.now copied
    (sym (length-take-le len c.args.text.now found.boundary.0)) (omega (arith, found.bound)))
