use Rattle.std.proofs.Common.{rules, ◌≡◌, ◌∙◌, None, length, chars, refl, ap, sym}
use Rattle.std.specs.Prelude.{◌≢◌}
use Rattle.enc_utf8.specs.Checked.{checked_add}
use Rattle.enc_utf8.specs.declared.coder_result.CoderResult.TheVariants.{InputEmpty}
use Rattle.enc_stream.proofs.OneShotDecodeLemmas.{nothing, something}
use Rattle.enc_stream.proofs.UnreadTextLemmas.{no_chars}
use Rattle.enc_stream.proofs.OneShotEncodeLemmas.{none_encoded, none_asked, nothing_written, too_long, all_written}
use Rattle.enc_stream.proofs.OneShotEncodeLemmas.{all_flagged, one_more, has_first_room, too_long_at_once}
use Rattle.enc_stream.proofs.one_shot.convert_text.Goals as goal

pub calls-init : goal.calls-init
calls-init c = rw (c.new_encoder-encoder.ensures, c.in_ok-bytes.ensures.bytes) (
  c.utf8.text,
  none_encoded c.args.encoding c.args.text.now,
  has_first_room _ c.args.text.now
      (rw c.new_encoder-encoder.ensures at
      c.max_buffer_length_from_utf8_if_no_unmappables-length.ensures.formula)
      c.in_ok-bytes.ensures.enough c.in_ok-bytes.ensures.room,
)

pub returns-then-is_empty-clause-bytes : goal.returns-then-is_empty-clause-bytes
returns-then-is_empty-clause-bytes c =
    c.new.ensures.items ∙ nothing_written c.args.encoding (chars c.args.text.now)
    (no_chars c.args.text.now (nothing c.args.text.now (c.if-is_empty.ensures)))

pub returns-then-is_empty-clause-flag : goal.returns-then-is_empty-clause-flag
returns-then-is_empty-clause-flag c =
    rw (no_chars c.args.text.now (nothing c.args.text.now (c.if-is_empty.ensures)))
    refl

pub returns-in_err-bytes-clause-too_long : goal.returns-in_err-bytes-clause-too_long
returns-in_err-bytes-clause-too_long c = λ overflows.
    let length = c.max_buffer_length_from_utf8_if_no_unmappables-length in
    let none : length.result ≡ None = search rules in
    too_long_at_once c.args.encoding c.args.text.now
    (sym (rw c.new_encoder-encoder.ensures at length.ensures.formula) ∙ none)

pub returns-in_err-bytes-clause-memory : goal.returns-in_err-bytes-clause-memory
returns-in_err-bytes-clause-memory c = λ memory.
    let length = c.max_buffer_length_from_utf8_if_no_unmappables-length in
    let fits : length.result ≢ None = search rules in
    record {
      some = something c.if-is_empty.ensures;
      length_fits = rw (rw c.new_encoder-encoder.ensures at length.ensures.formula) at fits;
    }

pub returns-in_err-make_byte_room-clause-too_long :
    goal.returns-in_err-make_byte_room-clause-too_long
returns-in_err-make_byte_room-clause-too_long c = λ overflows.
    let encoded = c.encode_from_utf8_to_vec-stop in
    let goes_on : ¬ (encoded.result.0 ≡ InputEmpty) = search rules in
    too_long (one_more c.calls.invariant.1 _ _ encoded.ensures.call encoded.ensures.appended goes_on
    c.split_at.ensures.back c.calls.invariant.0 c.calls.invariant.2) (search rules)

pub returns-in_err-make_byte_room-clause-memory : goal.returns-in_err-make_byte_room-clause-memory
returns-in_err-make_byte_room-clause-memory c = λ memory. record {
  some = something c.if-is_empty.ensures;
  length_fits = λ none. c.calls.invariant.2.fits
      (ap (λ n. checked_add n (length c.calls.bytes.items)) (none_asked c.calls.invariant.1 none));
}

pub returns-then-eq-clause-bytes : goal.returns-then-eq-clause-bytes
returns-then-eq-clause-bytes c =
    let encoded = c.encode_from_utf8_to_vec-stop in
    let at_end : encoded.result.0 ≡ InputEmpty = search rules in
    all_written c.calls.invariant.1 _ _ encoded.ensures.call encoded.ensures.appended at_end

pub returns-then-eq-clause-flag : goal.returns-then-eq-clause-flag
returns-then-eq-clause-flag c =
    let encoded = c.encode_from_utf8_to_vec-stop in
    let at_end : encoded.result.0 ≡ InputEmpty = search rules in
    all_flagged c.calls.invariant.1 _ _ encoded.ensures.call encoded.ensures.appended at_end

pub calls-preserved : goal.calls-preserved
calls-preserved c =
    let encoded = c.encode_from_utf8_to_vec-stop in
    let goes_on : ¬ (encoded.result.0 ≡ InputEmpty) = search rules in
    let next = one_more c.calls.invariant.1 _ _ encoded.ensures.call encoded.ensures.appended
    goes_on c.split_at.ensures.back c.calls.invariant.0 c.calls.invariant.2 in
    let asked = c.max_buffer_length_from_utf8_if_no_unmappables-length-in-calls in
    let fits : checked_add asked.result (length c.make_byte_room.new.bytes.items) ≢ None =
    λ overflows. let is_too_long = c.in_ok-make_byte_room.ensures.none (search rules) in absurd cc
    in (
      search rules,
      rw c.in_ok-make_byte_room.ensures.bytes next,
      record {
        fits = rw asked.ensures.formula at fits;
        enough = rw asked.ensures.formula at c.in_ok-make_byte_room.ensures.enough;
        least = c.in_ok-make_byte_room.ensures.room;
      },
    )
