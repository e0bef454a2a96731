-- What both calls write, and what is still to come, is the text of the whole input.
use Rattle.std.proofs.Common.{◌∙◌, ap, sym, refl, take, ◌++◌, [], append-nil, arith, length, ◌≤◌}
use Rattle.encoding_rs.specs.Decoding.{remaining_sequences}
use Rattle.example_callers.proofs.WrittenText.{utf_8, whole_in_two, not_last, written_then, written_chunk, written_all}
use Rattle.example_callers.proofs.WrittenText.{two_parts, first_of, first_of_two}
use Rattle.example_callers.proofs.decode_in_two.Goals as goal

pub returns-in-OutputFull-clause-beginning : goal.returns-in-OutputFull-clause-beginning
returns-in-OutputFull-clause-beginning c =
    let first = c.decode_to_utf8-stop in
    let within : first.result.2 ≤ length first.new.dst = omega arith in
    let whole = whole_in_two c.args.bytes.now _ c.new_decoder-decoder.ensures
    c.split_at.ensures.front c.split_at.ensures.back in
    first_of first.new.dst _ within
    (whole ∙ written_then _ first.ensures.call.decodes c.split_at.result.1.now not_last)

pub returns-in-InputEmpty-clause-beginning : goal.returns-in-InputEmpty-clause-beginning
returns-in-InputEmpty-clause-beginning c =
    let first = c.decode_to_utf8-stop in
    let second = c.decode_to_utf8-end in
    let second_chunk = c.split_at.result.1.now in
    let within_first : first.result.2 ≤ length first.new.dst = omega arith in
    let within_second : second.result.2 ≤ length second.new.dst = omega arith in
    let whole = whole_in_two c.args.bytes.now _ c.new_decoder-decoder.ensures
    c.split_at.ensures.front c.split_at.ensures.back in
    first_of_two first.new.dst second.new.dst _ _ within_first within_second
    (whole
    ∙ written_chunk _ first.ensures.call.decodes c.in-InputEmpty.is second_chunk not_last
    ∙ ap (λ x. take first.result.2 first.new.dst ++ x)
    (ap (λ x. utf_8 (remaining_sequences first.new.self x)) (sym (append-nil second_chunk))
    ∙ written_then _ second.ensures.call.decodes [] (λ _. refl)))

pub returns-in-InputEmpty-clause-all : goal.returns-in-InputEmpty-clause-all
returns-in-InputEmpty-clause-all c = λ at_end.
    let first = c.decode_to_utf8-stop in
    let second = c.decode_to_utf8-end in
    let within_first : first.result.2 ≤ length first.new.dst = omega arith in
    let within_second : second.result.2 ≤ length second.new.dst = omega arith in
    let whole = whole_in_two c.args.bytes.now _ c.new_decoder-decoder.ensures
    c.split_at.ensures.front c.split_at.ensures.back in
    two_parts first.new.dst second.new.dst _ within_first within_second
    ∙ sym (whole
    ∙ written_chunk _ first.ensures.call.decodes c.in-InputEmpty.is c.split_at.result.1.now
    not_last
    ∙ ap (λ x. take first.result.2 first.new.dst ++ x)
    (written_all _ second.ensures.call.decodes at_end))
