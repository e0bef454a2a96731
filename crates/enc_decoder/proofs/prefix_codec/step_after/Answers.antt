use Rattle.std.proofs.Common.{[], ◌∷◌, ◌++◌, ap, sym, ◌∙◌, refl, arith, length}
use Rattle.std.proofs.lemmas.List.{length-append}
use Rattle.enc_decoder.specs.Pending.{bytes_of_pending}
use Rattle.enc_decoder.proofs.PrefixLemmas.{keeps_left, settles_complete}
use Rattle.enc_decoder.proofs.PrefixLemmas.{settles_malformed}
use Rattle.enc_decoder.proofs.PrefixComes.{shows_byte_with, shows_byte, waits}
use Rattle.enc_decoder.proofs.prefix_codec.step_after.Goals as goal

pub returns-in-Complete : goal.returns-in-Complete
returns-in-Complete g c =
    let pending = bytes_of_pending (g.C.PrefixCodec.waiting c.args.codec) in
    let one_longer = length-append pending (c.args.byte ∷ []) in
    let held = ap (λ p. length (bytes_of_pending p)) c.requires.waiting in
    rw c.complete.ensures (shows_byte_with g.C.PrefixCodec.prefix g.C.PrefixCodec.waiting
    c.args.codec c.with_waiting-next.result c.requires.lawful
    c.with_waiting-next.ensures.prefix c.args.byte c.requires.incomplete
    (settles_complete _ (pending ++ c.args.byte ∷ []) c.in-Complete.text
    (omega (arith, one_longer))
    (ap (λ p. g.C.PrefixCodec.prefix c.args.codec (bytes_of_pending p ++ c.args.byte ∷ []))
    (sym c.requires.waiting) ∙ sym c.classify.ensures ∙ c.in-Complete.is))
    (omega (arith, one_longer)) (omega (arith, one_longer, held, c.len.ensures))
    (ap bytes_of_pending c.with_waiting-next.ensures.waiting))

pub with_waiting-next-requires-in-Malformed : goal.with_waiting-next-requires-in-Malformed
with_waiting-next-requires-in-Malformed g c = record {
  kept = rw (c.skip.ensures, c.requires.waiting) (keeps_left
      (g.C.PrefixCodec.prefix c.args.codec) g.C.PrefixCodec.leaves_others
      (bytes_of_pending (g.C.PrefixCodec.waiting c.args.codec)) c.args.byte c.in-Malformed.len
      c.requires.leaves c.requires.incomplete
      (rw (← c.requires.waiting) (sym c.classify.ensures ∙ c.in-Malformed.is)));
}

pub returns-in-Malformed : goal.returns-in-Malformed
returns-in-Malformed g c =
    let pending = bytes_of_pending (g.C.PrefixCodec.waiting c.args.codec) in
    rw c.malformed.ensures (shows_byte g.C.PrefixCodec.prefix g.C.PrefixCodec.waiting
    c.args.codec c.with_waiting-next-in-Malformed.result c.requires.lawful
    c.with_waiting-next-in-Malformed.ensures.prefix c.args.byte _
    (rw (c.len-in-Malformed.ensures, c.requires.waiting) refl)
    c.requires.incomplete
    (settles_malformed (g.C.PrefixCodec.prefix c.args.codec) c.requires.lawful
    (pending ++ c.args.byte ∷ [])
    c.in-Malformed.len
    (rw (← c.requires.waiting) (sym c.classify.ensures ∙ c.in-Malformed.is)))
    refl
    (rw (← c.requires.waiting) (ap bytes_of_pending c.with_waiting-next-in-Malformed.ensures.waiting
    ∙ c.skip.ensures)))

pub returns-in-Incomplete : goal.returns-in-Incomplete
returns-in-Incomplete g c =
    waits g.C.PrefixCodec.prefix g.C.PrefixCodec.waiting c.args.codec c.with_waiting.result
    c.requires.lawful c.with_waiting.ensures.prefix c.args.byte
    c.requires.incomplete
    (rw (← c.requires.waiting) (sym c.classify.ensures ∙ c.in-Incomplete.is))
    (rw (← c.requires.waiting) (ap bytes_of_pending c.with_waiting.ensures.waiting
    ∙ c.with.ensures))
