use Rattle.std.proofs.Common.{inl}
use Rattle.enc_stream.proofs.OwnTextLemmas.{own_utf_8}
use Rattle.enc_stream.proofs.own_text.are_their_own_text.Goals as goal

pub returns-then-are_same : goal.returns-then-are_same
returns-then-are_same c =
    let encoding = c.args.encoding in
    let bytes = c.args.bytes.now in
    let same = c.are_same.ensures.0 c.if-are_same.true in (
      λ utf8. inl (same, c.are_utf8.ensures.0 utf8),
      λ own. c.are_utf8.ensures.1 (own_utf_8 encoding bytes own),
    )
