use Rattle.std.proofs.Common.{refl, arith, drop}
use Rattle.enc_utf8.proofs.AsciiMaskLemmas.{ascii_loaded}
use Rattle.enc_utf8.proofs.LengthLemmas.{lengths}
use Rattle.enc_input.proofs.Utf8BytesLemmas.{ascii_written, later_utf8, of_rest}
use Rattle.enc_input.proofs.WriteLoopLemmas.{writes_then}
use Rattle.enc_input.proofs.utf8_bytes.put_hop.Goals as goal

pub put_short-read-requires-clause-utf8 : goal.put_short-read-requires-clause-utf8
put_short-read-requires-clause-utf8 g c =
    let text = drop c.args.from c.args.src.now in
    let ascii = c.ascii_from-ascii.ensures in
    later_utf8 c.args.src.now c.args.from (ascii_written (g.M.Mapping.means c.args.mapping)
    c.requires.keeps c.requires.utf8 (omega (arith, ascii.bound))
    (omega (arith, ascii.bound, lengths))
    (ascii_loaded text 0 _ _ refl (omega (arith, ascii.bound)) ascii.ascii)
    (omega (arith, ascii.bound)) c.put_wide_lanes.ensures)

pub returns-clause-writes : goal.returns-clause-writes
returns-clause-writes g c =
    let text = drop c.args.from c.args.src.now in
    let ascii = c.ascii_from-ascii.ensures in
    writes_then (ascii_written (g.M.Mapping.means c.args.mapping) c.requires.keeps c.requires.utf8
    (omega (arith, ascii.bound))
    (omega (arith, ascii.bound, lengths))
    (ascii_loaded text 0 _ _ refl (omega (arith, ascii.bound)) ascii.ascii)
    (omega (arith, ascii.bound)) c.put_wide_lanes.ensures)
    (of_rest c.args.src.now c.args.from _ c.put_short-read.ensures.writes)
