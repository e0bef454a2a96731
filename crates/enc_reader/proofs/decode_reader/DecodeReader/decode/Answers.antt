use Rattle.std.proofs.Common.{◌++◌, rules, arith, ◌≡◌, ◌≤◌, length, take, [], false, not, ap, sym, ◌∙◌, length-take-le}
use Rattle.std.proofs.lemmas.Bool.{false≢true, not-true, not-false}
use Rattle.enc_stream.specs.Decoding.{has_finished}
use Rattle.enc_reader.specs.Reader.{state_of}
use Rattle.enc_reader.proofs.TurnLemmas.{IsTurn-call, CountsBytes-call, chunk_can_decode, left_of, some_text, all_read}
use Rattle.enc_reader.proofs.TurnLemmas.{SameEnd-call, decoded_end, only_at_end, unreported}
use Rattle.enc_reader.proofs.TurnLemmas.{chunk_settles, chunk_fills_room}
use Rattle.enc_reader.proofs.decode_reader.DecodeReader.decode.Goals as goal

pub returns-then-call-gt0-clause-turn : goal.returns-then-call-gt0-clause-turn
returns-then-call-gt0-clause-turn g c =
    let reader = c.args.self.now in
    let decodes = c.decode_unread-call.ensures.call.decodes in
    let within : c.decode_unread-call.result.written ≤ length c.decode_unread-call.new.dst =
    search rules in
    let some = some_text _ _ c.if-call-gt0.true within in
    let left = left_of reader.filled reader.at _ reader.input.now reader.decoded
    decodes.call.within in
    rw c.decode_unread-call.ensures.kept
    (IsTurn-call (state_of reader) _ decodes
    (chunk_can_decode reader.filled reader.at reader.input.now (search rules) reader.decoded
    reader.within c.if-self.false c.requires.room)
    false left (λ t. absurd (false≢true t)) (λ _ e. absurd (some e)))

pub returns-clause-turn : goal.returns-clause-turn
returns-clause-turn g c =
    let reader = c.args.self.now in
    let call = c.decode_unread-call in
    let decodes = call.ensures.call.decodes in
    let none : take c.without_text-2.result.written call.new.dst ≡ [] =
    ap (λ n. take n call.new.dst) c.without_text-2.ensures.written in
    let wrote : take c.without_text-2.result.written call.new.dst
    ≡ take call.result.written call.new.dst = search rules in
    let waits : c.without_text-2.result.waits ≡ not (has_finished call.new.decoder) =
    search rules in
    let left = left_of reader.filled reader.at _ reader.input.now reader.decoded
    decodes.call.within in
    rw (wrote, c.without_text-2.ensures.replaced, call.ensures.kept)
    (IsTurn-call (state_of reader) _ decodes
    (chunk_can_decode reader.filled reader.at reader.input.now (search rules) reader.decoded
    reader.within c.if-self.false c.requires.room)
    c.without_text-2.result.waits left
    (λ t. (sym wrote ∙ none, not-true (has_finished call.new.decoder) (sym waits ∙ t)))
    (λ f _. not-false (has_finished call.new.decoder) (sym waits ∙ f)))

pub invariant_of-self-clause-decoded : goal.invariant_of-self-clause-decoded
invariant_of-self-clause-decoded g c =
    let reader = c.args.self.now in
    all_read reader.filled reader.at _ reader.input.now reader.decoded
    c.decode_unread-call.ensures.call.decodes.call.within

pub invariant_of-self-clause-seen : goal.invariant_of-self-clause-seen
invariant_of-self-clause-seen g c =
    λ f. only_at_end _ c.decode_unread-call.ensures.call.decodes f

pub returns-then-call-gt0-clause-counts : goal.returns-then-call-gt0-clause-counts
returns-then-call-gt0-clause-counts g c =
    let reader = c.args.self.now in
    let decodes = c.decode_unread-call.ensures.call.decodes in
    rw c.decode_unread-call.ensures.kept
    (CountsBytes-call (state_of reader) decodes
    (chunk_can_decode reader.filled reader.at reader.input.now (search rules) reader.decoded
    reader.within c.if-self.false c.requires.room)
    (left_of reader.filled reader.at _ reader.input.now reader.decoded decodes.call.within))

pub returns-clause-counts : goal.returns-clause-counts
returns-clause-counts g c =
    let reader = c.args.self.now in
    let decodes = c.decode_unread-call.ensures.call.decodes in
    rw c.decode_unread-call.ensures.kept
    (CountsBytes-call (state_of reader) decodes
    (chunk_can_decode reader.filled reader.at reader.input.now (search rules) reader.decoded
    reader.within c.if-self.false c.requires.room)
    (left_of reader.filled reader.at _ reader.input.now reader.decoded decodes.call.within))

pub invariant_of-self-clause-settled : goal.invariant_of-self-clause-settled
invariant_of-self-clause-settled g c =
    let reader = c.args.self.now in
    λ all_read not_ended.
    chunk_settles reader.filled reader.at reader.input.now
    c.decode_unread-call.ensures.call.decodes reader.decoded reader.within
    (chunk_can_decode reader.filled reader.at reader.input.now (search rules) reader.decoded
    reader.within c.if-self.false c.requires.room)
    all_read not_ended

pub returns-then-call-gt0-clause-full : goal.returns-then-call-gt0-clause-full
returns-then-call-gt0-clause-full g c =
    let reader = c.args.self.now in
    let call = c.decode_unread-call in
    let within : call.result.written ≤ length call.new.dst = search rules in
    rw call.ensures.kept
    (chunk_fills_room reader.filled reader.at reader.input.now call.ensures.call.decodes
    reader.decoded reader.within call.result.written
    (length-take-le call.result.written call.new.dst within) (unreported call.result.result))

pub returns-clause-full : goal.returns-clause-full
returns-clause-full g c =
    let reader = c.args.self.now in
    let call = c.decode_unread-call in
    let within : call.result.written ≤ length call.new.dst = search rules in
    rw (call.ensures.kept, c.without_text-2.ensures.written)
    (chunk_fills_room reader.filled reader.at reader.input.now call.ensures.call.decodes
    reader.decoded reader.within 0
    (length-take-le call.result.written call.new.dst within ∙ omega arith)
    (unreported call.result.result))

pub invariant_of-self-clause-same_end : goal.invariant_of-self-clause-same_end
invariant_of-self-clause-same_end g c =
    let reader = c.args.self.now in
    let decodes = c.decode_unread-call.ensures.call.decodes in
    rw c.decode_unread-call.ensures.kept
    (SameEnd-call (reader.recent ++ take reader.at reader.input.now) decodes reader.same_end
    (decoded_end reader.recent reader.filled reader.at _ reader.input.now decodes.call.within))
