use Rattle.std.proofs.Common.{[], ◌∷◌, ◌++◌, ap, sym, ◌∙◌, refl, arith, drop}
use Rattle.std.proofs.lemmas.List.{length-append}
use Rattle.enc_decoder.specs.Pending.{bytes_of_pending}
use Rattle.enc_decoder.proofs.PrefixLemmas.{kept_incomplete, keeps_others, settles_complete, settles_malformed}
use Rattle.enc_decoder.proofs.PrefixComes.{shows_pending}
use Rattle.enc_decoder.proofs.prefix_codec.shown_first.Goals as goal

pub returns-then-not-leaves_others-clause-incomplete :
    goal.returns-then-not-leaves_others-clause-incomplete
returns-then-not-leaves_others-clause-incomplete g c none =
    kept_incomplete (g.C.PrefixCodec.prefix c.args.codec) g.C.PrefixCodec.leaves_others
    (bytes_of_pending (g.C.PrefixCodec.waiting c.args.codec)) c.laws.ensures.kept
    (sym c.leaves_others.ensures ∙ c.if-not-leaves_others.true)

pub with_waiting-next-requires : goal.with_waiting-next-requires
with_waiting-next-requires g c = record {
  kept = keeps_others (g.C.PrefixCodec.prefix c.args.codec) g.C.PrefixCodec.leaves_others _
      (sym c.leaves_others.ensures ∙ c.if-not-leaves_others.false);
}

pub with_waiting-next-requires-in-Malformed : goal.with_waiting-next-requires-in-Malformed
with_waiting-next-requires-in-Malformed g c = record {
  kept = keeps_others (g.C.PrefixCodec.prefix c.args.codec) g.C.PrefixCodec.leaves_others _
      (sym c.leaves_others.ensures ∙ c.if-not-leaves_others.false);
}

pub returns-in-Complete-clause-shown : goal.returns-in-Complete-clause-shown
returns-in-Complete-clause-shown g c =
    let front = bytes_of_pending c.loop-byte.front in
    let one_longer = length-append front (c.in-Some.byte ∷ []) in
    let is_len = c.len-len.ensures in
    rw c.complete.ensures (
      shows_pending g.C.PrefixCodec.prefix g.C.PrefixCodec.waiting c.args.codec
          c.with_waiting-next.result c.laws.ensures.prefixes c.with_waiting-next.ensures.prefix
          front _ c.loop-byte.invariant.0
          (sym c.first.ensures ∙ c.in-Some.is)
          c.loop-byte.invariant.1
          (settles_complete _ (front ++ c.in-Some.byte ∷ []) c.in-Complete.text
          (omega (arith, one_longer)) (sym c.classify.ensures ∙ c.in-Complete.is))
          (omega (arith, one_longer, is_len))
          (rw (← c.waiting-pending.ensures) (ap bytes_of_pending c.with_waiting-next.ensures.waiting
          ∙ c.skip.ensures ∙ ap (λ i. drop i (bytes_of_pending c.waiting-pending.result))
          (omega (arith, one_longer, is_len)))),
      refl,
    )

pub returns-in-Malformed-clause-shown : goal.returns-in-Malformed-clause-shown
returns-in-Malformed-clause-shown g c =
    let front = bytes_of_pending c.loop-byte.front in
    rw c.malformed.ensures (
      shows_pending g.C.PrefixCodec.prefix g.C.PrefixCodec.waiting c.args.codec
          c.with_waiting-next-in-Malformed.result c.laws.ensures.prefixes
          c.with_waiting-next-in-Malformed.ensures.prefix
          front _ c.loop-byte.invariant.0
          (sym c.first.ensures ∙ c.in-Some.is) c.loop-byte.invariant.1
          (settles_malformed _ c.laws.ensures.prefixes (front ++ c.in-Some.byte ∷ [])
          c.in-Malformed.len
          (sym c.classify.ensures ∙ c.in-Malformed.is))
          refl
          (rw (← c.waiting-pending.ensures) (ap bytes_of_pending
          c.with_waiting-next-in-Malformed.ensures.waiting ∙ c.skip-in-Malformed.ensures)),
      refl,
    )
