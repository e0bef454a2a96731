use Rattle.std.proofs.Common.{ap, refl, length, ◌∙◌}
use Rattle.enc_decoder.specs.Pending.{bytes_of_pending}
use Rattle.enc_decoder.proofs.PrefixComes.{pending_len, left_over}
use Rattle.enc_decoder.proofs.prefix_codec.AnyByteCodec.at_end.Goals as goal

pub returns-in_default-waiting : goal.returns-in_default-waiting
returns-in_default-waiting g c =
    rw c.malformed.ensures
    (left_over g.C.PrefixCodec.prefix g.C.PrefixCodec.waiting c.args.self
    c.with_waiting-next.result c.shown_first.ensures.lawful c.with_waiting-next.ensures.prefix _
    (c.in_default.ensures.incomplete refl)
    ((pending_len (g.C.PrefixCodec.waiting c.args.self)).1
    (λ none. c.in_default-waiting.not-Nothing (c.waiting.ensures ∙ none)))
    (c.len.ensures ∙ ap (λ p. length (bytes_of_pending p)) c.waiting.ensures)
    (ap bytes_of_pending c.with_waiting-next.ensures.waiting))
