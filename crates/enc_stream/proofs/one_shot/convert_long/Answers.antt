use Rattle.std.proofs.Common.{rules, ◌≡◌, [], None, ap, ◌∙◌, sym, inl, inr}
use Rattle.std.specs.String.{string_bytes}
use Rattle.enc_utf8.specs.declared.coder_result.CoderResult.TheVariants.{InputEmpty}
use Rattle.enc_output.specs.Results.{decoder_result_of}
use Rattle.enc_decoder.specs.Remainder.{AreBytes}
use Rattle.enc_decoder.proofs.ByteLemmas.{bytes_of_slice}
use Rattle.enc_stream.proofs.EndOfInputLemmas.{whole_text, whole_flag}
use Rattle.enc_decoder.proofs.ByteLemmas.{bytes-drop}
use Rattle.enc_stream.proofs.OneShotDecodeLemmas.{none_so_far, next_call, still_open}
use Rattle.enc_stream.proofs.OneShotDecodeLemmas.{never_full, too_long_after, asks_for_memory, there_is_a_length}
use Rattle.std.proofs.Common.{refl}
use Rattle.enc_stream.proofs.one_shot.convert_long.Goals as goal

pub returns-in_err-text-clause-too_long :
    goal.returns-in_err-text-clause-too_long
returns-in_err-text-clause-too_long c = λ too_long.
    let none : c.whole_length-length.result ≡ None = search rules in
    let asked = c.whole_length-length.ensures in
    inl (sym asked ∙ none)

pub returns-in_err-text-clause-memory : goal.returns-in_err-text-clause-memory
returns-in_err-text-clause-memory c = λ memory.
    asks_for_memory refl
    c.whole_length-length.ensures c.requires.some
    (search rules)

pub returns-then-eq-clause-text : goal.returns-then-eq-clause-text
returns-then-eq-clause-text c =
    let decodes = c.whole_to_string-decoder.ensures.call.decodes in
    let at_end : c.whole_to_string-decoder.result.1 ≡ InputEmpty = search rules in
    let decoded =
    next_call _ (none_so_far refl c.in_ok-text.ensures.bytes) refl refl
    decodes c.whole_to_string-decoder.ensures.appended in
    whole_text decoded (rw at_end at decodes.finished)

pub returns-then-eq-clause-flag : goal.returns-then-eq-clause-flag
returns-then-eq-clause-flag c =
    let decodes = c.whole_to_string-decoder.ensures.call.decodes in
    let at_end : c.whole_to_string-decoder.result.1 ≡ InputEmpty = search rules in
    let decoded =
    next_call _ (none_so_far refl c.in_ok-text.ensures.bytes) refl refl
    decodes c.whole_to_string-decoder.ensures.appended in
    whole_flag decoded (rw at_end at decodes.finished)

pub max_utf8_buffer_length-length-requires : goal.max_utf8_buffer_length-length-requires
max_utf8_buffer_length-length-requires c =
    let goes_on : ¬ (c.whole_to_string-decoder.result.1 ≡ InputEmpty) = search rules in
    record { unfinished = still_open _ c.whole_to_string-decoder.ensures.call.decodes goes_on }

pub returns-in_err-make_room-clause-too_long : goal.returns-in_err-make_room-clause-too_long
returns-in_err-make_room-clause-too_long c =
    let goes_on : ¬ (c.whole_to_string-decoder.result.1 ≡ InputEmpty) = search rules in
    let none : string_bytes c.in_ok-text.text ≡ [] = c.in_ok-text.ensures.bytes in
    λ too_long. inr (
    too_long_after refl
    c.whole_length-length.ensures
    c.in_ok-text.ensures.room _ goes_on c.whole_to_string-decoder.ensures.call
    (rw (none, ← c.split_at.ensures.back) (search rules))
    )

pub returns-in_err-make_room-clause-memory : goal.returns-in_err-make_room-clause-memory
returns-in_err-make_room-clause-memory c = λ memory.
    asks_for_memory refl
    c.whole_length-length.ensures c.requires.some
    (there_is_a_length _ _ c.in_ok-text.ensures.room)

pub decode_to_string-requires : goal.decode_to_string-requires
decode_to_string-requires c =
    let goes_on : ¬ (c.whole_to_string-decoder.result.1 ≡ InputEmpty) = search rules in
    record { unfinished = still_open _ c.whole_to_string-decoder.ensures.call.decodes goes_on }

pub unreachable-requires : goal.unreachable-requires
unreachable-requires c =
    let are_bytes : AreBytes c.split_at.result.1.now =
    rw c.split_at.ensures.back (bytes-drop _ _ (bytes_of_slice _ c.type_inv.bytes)) in
    never_full _ _ c.max_utf8_buffer_length-length.ensures.enough
    c.in_ok-make_room.ensures.enough are_bytes
    (c.decode_to_string.ensures.call.need.full.0
    (ap decoder_result_of c.in-OutputFull-default-default.is-0))

pub returns-clause-text : goal.returns-clause-text
returns-clause-text c =
    let decodes = c.whole_to_string-decoder.ensures.call.decodes in
    let first =
    next_call _ (none_so_far refl c.in_ok-text.ensures.bytes) refl refl
    decodes c.whole_to_string-decoder.ensures.appended in
    let decodes_rest = c.decode_to_string.ensures.call.decodes in
    let both =
    next_call _ first c.split_at.ensures.back c.in_ok-make_room.ensures.bytes decodes_rest
    c.decode_to_string.ensures.appended in
    whole_text both (rw c.in-InputEmpty-default-default.is-0 at decodes_rest.finished)

pub returns-clause-flag : goal.returns-clause-flag
returns-clause-flag c =
    let decodes = c.whole_to_string-decoder.ensures.call.decodes in
    let first =
    next_call _ (none_so_far refl c.in_ok-text.ensures.bytes) refl refl
    decodes c.whole_to_string-decoder.ensures.appended in
    let decodes_rest = c.decode_to_string.ensures.call.decodes in
    let both =
    next_call _ first c.split_at.ensures.back c.in_ok-make_room.ensures.bytes decodes_rest
    c.decode_to_string.ensures.appended in
    whole_flag both (rw c.in-InputEmpty-default-default.is-0 at decodes_rest.finished)
