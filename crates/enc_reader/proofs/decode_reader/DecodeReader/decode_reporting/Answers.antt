use Rattle.std.proofs.Common.{rules, arith, ◌≡◌, ◌≤◌, ◌++◌, length, take, true, false, ap, sym, ◌∙◌}
use Rattle.std.proofs.Common.{length-append, length-take-le}
use Rattle.enc_stream.specs.Decoding.{has_finished}
use Rattle.enc_reader.specs.Reader.{state_of}
use Rattle.enc_reader.proofs.TurnLemmas.{CountsBytes-call, chunk_can_decode, left_of, all_read}
use Rattle.enc_reader.proofs.TurnLemmas.{chunk_settles, chunk_fills_room}
use Rattle.enc_stream.proofs.DecoderProgressLemmas.{ends_read}
use Rattle.enc_reader.proofs.ReportingLemmas.{IsTurn-reporting, TurnPassesItems-call, nothing_handed}
use Rattle.enc_reader.proofs.ReportingLemmas.{HasShortLens-call, TurnPassesItems-none}
use Rattle.enc_reader.proofs.TurnLemmas.{SameEnd-call, decoded_end}
use Rattle.enc_reader.proofs.decode_reader.DecodeReader.decode_reporting.Goals as goal

pub returns-clause-turn : goal.returns-clause-turn
returns-clause-turn g c =
    let reader = c.args.self.now in
    let call = c.report_unread-call in
    let decodes = call.ensures.call.decodes in
    let lens = c.reported_lens-malformed.ensures in
    let within : call.result.written ≤ length call.new.dst = search rules in
    rw (lens, call.ensures.kept)
    (IsTurn-reporting (state_of reader) decodes
    (chunk_can_decode reader.filled reader.at reader.input.now (search rules) reader.decoded
    reader.within c.if-self.false c.requires.room)
    c.waits_on-waits.result
    (left_of reader.filled reader.at _ reader.input.now reader.decoded decodes.call.within)
    (λ t. let waits = c.waits_on-waits.ensures.waits t in
    let going : has_finished call.new.decoder ≡ false = search rules in
    (ap (λ n. take n call.new.dst) waits.0, sym lens ∙ waits.1, going))
    (λ f e. let none = nothing_handed _ _ _ within e in
    let ended = c.waits_on-waits.ensures.goes_on f none.0 (lens ∙ none.1) in
    let finished : has_finished call.new.decoder ≡ true = search rules in finished))

pub returns-clause-items : goal.returns-clause-items
returns-clause-items g c =
    let reader = c.args.self.now in
    let call = c.report_unread-call in
    let decodes = call.ensures.call.decodes in
    rw (c.reported_lens-malformed.ensures, call.ensures.kept)
    (TurnPassesItems-call (state_of reader) decodes
    (chunk_can_decode reader.filled reader.at reader.input.now (search rules) reader.decoded
    reader.within c.if-self.false c.requires.room)
    (reader.recent ++ take reader.at reader.input.now)
    (omega (arith, length-append reader.recent (take reader.at reader.input.now)))
    reader.same_end
    (left_of reader.filled reader.at _ reader.input.now reader.decoded decodes.call.within)
    (decoded_end reader.recent reader.filled reader.at _ reader.input.now decodes.call.within))

pub returns-clause-lens : goal.returns-clause-lens
returns-clause-lens g c =
    let reader = c.args.self.now in
    let decodes = c.report_unread-call.ensures.call.decodes in
    rw c.reported_lens-malformed.ensures
    (HasShortLens-call (state_of reader) decodes
    (chunk_can_decode reader.filled reader.at reader.input.now (search rules) reader.decoded
    reader.within c.if-self.false c.requires.room))

pub invariant_of-self-clause-same_end : goal.invariant_of-self-clause-same_end
invariant_of-self-clause-same_end g c =
    let reader = c.args.self.now in
    let call = c.report_unread-call in
    let decodes = call.ensures.call.decodes in
    rw call.ensures.kept
    (SameEnd-call (reader.recent ++ take reader.at reader.input.now) decodes reader.same_end
    (decoded_end reader.recent reader.filled reader.at _ reader.input.now decodes.call.within))

pub returns-clause-counts : goal.returns-clause-counts
returns-clause-counts g c =
    let reader = c.args.self.now in
    let call = c.report_unread-call in
    let decodes = call.ensures.call.decodes in
    rw call.ensures.kept
    (CountsBytes-call (state_of reader) decodes
    (chunk_can_decode reader.filled reader.at reader.input.now (search rules) reader.decoded
    reader.within c.if-self.false c.requires.room)
    (left_of reader.filled reader.at _ reader.input.now reader.decoded decodes.call.within))

pub invariant_of-self-clause-decoded : goal.invariant_of-self-clause-decoded
invariant_of-self-clause-decoded g c =
    let reader = c.args.self.now in
    all_read reader.filled reader.at _ reader.input.now reader.decoded
    c.report_unread-call.ensures.call.decodes.call.within

pub invariant_of-self-clause-seen : goal.invariant_of-self-clause-seen
invariant_of-self-clause-seen g c =
    λ f. (ends_read _ c.report_unread-call.ensures.call.decodes f).0

pub invariant_of-self-clause-settled : goal.invariant_of-self-clause-settled
invariant_of-self-clause-settled g c =
    let reader = c.args.self.now in
    λ all_read not_ended.
    chunk_settles reader.filled reader.at reader.input.now
    c.report_unread-call.ensures.call.decodes reader.decoded reader.within
    (chunk_can_decode reader.filled reader.at reader.input.now (search rules) reader.decoded
    reader.within c.if-self.false c.requires.room)
    all_read not_ended

pub returns-clause-full : goal.returns-clause-full
returns-clause-full g c =
    let reader = c.args.self.now in
    let call = c.report_unread-call in
    let within : call.result.written ≤ length call.new.dst = search rules in
    λ none.
    rw call.ensures.kept
    (chunk_fills_room reader.filled reader.at reader.input.now call.ensures.call.decodes
    reader.decoded reader.within call.result.written
    (length-take-le call.result.written call.new.dst within)
    (sym c.reported_lens-malformed.ensures ∙ none))

pub returns-then-is_finished-clause-items : goal.returns-then-is_finished-clause-items
returns-then-is_finished-clause-items g c =
    TurnPassesItems-none (state_of c.args.self.now)
    (c.args.self.now.recent ++ take c.args.self.now.at c.args.self.now.input.now)

pub returns-then-self-clause-items : goal.returns-then-self-clause-items
returns-then-self-clause-items g c =
    TurnPassesItems-none (state_of c.args.self.now)
    (c.args.self.now.recent ++ take c.args.self.now.at c.args.self.now.input.now)
