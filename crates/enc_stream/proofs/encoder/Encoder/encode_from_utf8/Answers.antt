use Rattle.std.proofs.Common.{◌∙◌, ap}
use Rattle.enc_encoder.specs.ErrorMode.{mode_of}
use Rattle.enc_encoder.proofs.NeedInModeLemmas.{goes_on}
use Rattle.enc_stream.proofs.EncoderLemmas.{html_mode_is, encodes_by, may_keep_none, never_reported}
use Rattle.enc_stream.proofs.UnreadTextLemmas.{boundary, chars_after}
use Rattle.enc_stream.proofs.EncoderProgressLemmas.{beside_ten, beside_none, not_ended}
use Rattle.enc_stream.proofs.ReferenceLemmas.{lawful_of}
use Rattle.enc_stream.proofs.encoder.Encoder.encode_from_utf8.Goals as goal

pub encode_in_mode-outcome-requires : goal.encode_in_mode-outcome-requires
encode_in_mode-outcome-requires c =
    record {
      mappable = may_keep_none _ _ c.self.invariant
          (rw (← c.self.view_is) at c.html_mode-mode.ensures);
    }

pub stop-requires : goal.stop-requires
stop-requires c =
    record {
      none_unmappable = never_reported c.encode_in_mode-outcome.ensures.call
          (ap mode_of c.html_mode-mode.ensures ∙ html_mode_is _);
    }

pub returns-clause-call : goal.returns-clause-call
returns-clause-call c =
    let made = c.encode_in_mode-outcome.ensures in
    rw (← c.self.view_is, c.stop.ensures) (encodes_by _ _ c.self.invariant
    (rw c.new-chars.ensures at made.call)
    (ap mode_of (rw (← c.self.view_is) at c.html_mode-mode.ensures) ∙ html_mode_is _))

pub returns-clause-boundary : goal.returns-clause-boundary
returns-clause-boundary c =
    let call = (returns-clause-call c).call in
    boundary _ _ _ _ c.utf8.src call.reads call.units

pub returns-clause-read : goal.returns-clause-read
returns-clause-read c = (returns-clause-boundary c).0

pub returns-clause-progress : goal.returns-clause-progress
returns-clause-progress c = λ on room.
    let encodes = (returns-clause-call c) in
    rw (chars_after _ _ _ _ c.utf8.src encodes.call.reads encodes.call.units)
    (goes_on encodes.call (lawful_of _ _) (beside_ten room _) (not_ended _ on))

pub returns-clause-progress_if_none_kept : goal.returns-clause-progress_if_none_kept
returns-clause-progress_if_none_kept c = λ on none_kept room.
    let encodes = (returns-clause-call c) in
    rw (chars_after _ _ _ _ c.utf8.src encodes.call.reads encodes.call.units)
    (goes_on encodes.call (lawful_of _ _) (beside_none none_kept room) (not_ended _ on))
