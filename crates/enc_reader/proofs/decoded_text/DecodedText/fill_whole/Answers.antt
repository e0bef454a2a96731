use Rattle.std.proofs.Common.{rules, ◌≡◌, ◌≤◌, length, false, arith, subst, sym}
use Rattle.std.specs.Str.{IsCharBoundary}
use Rattle.std.proofs.lemmas.Str.{IsCharBoundary-from_drop}
use Rattle.enc_reader.specs.Reader.{handed_text}
use Rattle.enc_reader.proofs.HeldTextLemmas.{handed_length}
use Rattle.enc_reader.proofs.decoded_text.DecodedText.fill_whole.Goals as goal

pub returns-then-not-is_char_boundary-clause-cut :
    goal.returns-then-not-is_char_boundary-clause-cut
returns-then-not-is_char_boundary-clause-cut g c = λ is_cut utf_8.
    let new = c.fill.new.self in
    let whole = c.fill.ensures.utf_8 utf_8 in
    let decoded : new.reader.at ≤ length new.reader.input.now =
    omega (arith, new.reader.decoded, new.reader.within) in
    let len = handed_length new.handed.lent new.handed.len new.reader.at new.reader.input.now
    new.text.now decoded new.at_hand in
    let starts = IsCharBoundary-from_drop (handed_text new.reader new.text.now new.handed) new.at
    (omega (arith, len, new.within)) whole in
    let yes = c.is_char_boundary.ensures.test.1
    (subst (λ text. IsCharBoundary text new.at) (sym c.handed_text.ensures) starts) in
    let no : c.is_char_boundary.result ≡ false = search rules in
    absurd (cc)
