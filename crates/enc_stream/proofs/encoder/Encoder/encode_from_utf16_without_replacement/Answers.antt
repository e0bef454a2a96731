use Rattle.std.proofs.Common.{◌≤◌, length, refl, arith, length-take, rules}
use Rattle.enc_encoder.proofs.NeedInModeLemmas.{goes_on}
use Rattle.enc_encoder.specs.Steps.{step_chars}
use Rattle.enc_stream.proofs.EncoderLemmas.{encodes_by}
use Rattle.enc_stream.proofs.NeedLemmas.{by_need}
use Rattle.enc_stream.proofs.UnreadTextLemmas.{ends_within, lossy_unread}
use Rattle.enc_stream.proofs.ReferenceLemmas.{lawful_of}
use Rattle.enc_stream.proofs.encoder.Encoder.encode_from_utf16_without_replacement.Goals as goal

pub returns-clause-call : goal.returns-clause-call
returns-clause-call c =
    let made = c.encode_in_mode-outcome.ensures in
    rw (← c.self.view_is) (encodes_by _ _ c.self.invariant
    (rw (c.new-units.ensures, made.call.flag) at made.call) refl)

pub returns-clause-need : goal.returns-clause-need
returns-clause-need c =
    let made = c.encode_in_mode-outcome in
    let fits : made.result.written ≤ length made.new.dst = search rules in
    by_need (omega (arith, fits, length-take made.result.written made.new.dst)) refl
    (returns-clause-call c)

pub returns-clause-read : goal.returns-clause-read
returns-clause-read c =
    let encodes = (returns-clause-call c) in
    ends_within c.args.src.now (step_chars encodes.call.done) encodes.rest _
    (λ i. (c.type_inv.src i).fits) encodes.call.reads encodes.call.units

pub returns-clause-progress : goal.returns-clause-progress
returns-clause-progress c = λ on room.
    let encodes = (returns-clause-call c) in
    rw (lossy_unread c.args.src.now (step_chars encodes.call.done) encodes.rest _
    (λ i. (c.type_inv.src i).fits) encodes.call.reads encodes.call.units)
    (goes_on encodes.call (lawful_of _ _) room on)
