use Rattle.std.proofs.Common.{sym, arith}
use Rattle.std.proofs.lemmas.Cmp.{ranked}
use Rattle.enc_names.proofs.OrderLemmas.{shorter_before, lesser_before_place, ordered_by}
use Rattle.enc_names.proofs.search.compare.Goals as goal

pub returns-then-label-word : goal.returns-then-label-word
returns-then-label-word c =
    ordered_by _ _ _ (shorter_before _ _ c.type_inv.label) (shorter_before _ _ c.type_inv.word)
    c.if-label-word.true (ranked _ _ _ c.cmp.ensures)

pub returns-then-label-at : goal.returns-then-label-at
returns-then-label-at c =
    let same_length = c.if-label-word.false in
    let invariant = c.loop-at.invariant in
    ordered_by _ _ _
    (lesser_before_place _ _ _ c.type_inv.label same_length c.loop-at-test.true invariant.within
    invariant.same)
    (lesser_before_place _ _ _ c.type_inv.word (sym same_length) c.loop-at-test.true (omega arith)
    (sym invariant.same))
    c.if-label-at.true (ranked _ _ _ c.cmp-then-label-at.ensures)
