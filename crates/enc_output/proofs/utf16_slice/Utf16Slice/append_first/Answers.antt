use Rattle.std.proofs.Common.{◌∙◌, sym}
use Rattle.enc_output.proofs.PiecesLemmas.{one_piece}
use Rattle.enc_output.proofs.utf16_slice.Utf16Slice.append_first.Goals as goal

pub returns : goal.returns
returns c =
    let peeked = c.in-Some.ensures in
    let appended = c.append_char.ensures in
    let was_appended = c.if-not-append_char.false in
    one_piece _ peeked.some peeked.within appended.scalar peeked.means
    (sym appended.fits ∙ was_appended)
    (appended.written was_appended)
