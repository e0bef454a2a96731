use Rattle.std.proofs.Common.{◌+◌, ◌-◌, length, inl, inr, arith}
use Rattle.std.proofs.lemmas.Bool.{cases_lt}
use Rattle.enc_utf8.proofs.Utf8FaultLemmas.{follow_after, follow_all}
use Rattle.enc_utf8.proofs.utf8.start_following.Goals as goal

pub returns-then-block_follows-clause-follow : goal.returns-then-block_follows-clause-follow
returns-then-block_follows-clause-follow c =
    let src = c.args.src.now in
    let last = length src - 19 in
    let found = c.following-end.result in
    follow_all src (length src) (c.start_follows.ensures c.if-not-start_follows.false)
    (λ k from to. elim (cases_lt k last) [
      | inl h ↦ follow_after src 13 found c.following-end.ensures.follow k from (omega arith)
      | inr h ↦ c.block_follows.ensures c.if-block_follows.true k h (omega arith)
    ])

pub returns-clause-follow : goal.returns-clause-follow
returns-clause-follow c =
    let src = c.args.src.now in
    let found = c.following-end.result in
    follow_all src (16 + found) (c.start_follows.ensures c.if-not-start_follows.false)
    (λ k from to. follow_after src 13 found c.following-end.ensures.follow k from (omega arith))
