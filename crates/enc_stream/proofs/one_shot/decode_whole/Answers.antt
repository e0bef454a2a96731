use Rattle.std.proofs.Common.{◌∙◌, refl, rules, sym}
use Rattle.enc_stream.specs.OwnText.{IsItsOwnText}
use Rattle.enc_stream.proofs.OwnTextLemmas.{own_unmarked, copied_text, whole_own_valid}
use Rattle.enc_stream.proofs.one_shot.decode_whole.Goals as goal

pub returns-in_ok-text-in-Some-clause-text : goal.returns-in_ok-text-in-Some-clause-text
returns-in_ok-text-in-Some-clause-text c =
    let encoding = c.begins_unmarked.ensures.encoding (search rules) in
    let rest = c.begins_unmarked.ensures.rest (search rules) in
    let own : IsItsOwnText c.args.handling c.args.encoding c.args.bytes.now =
    own_unmarked _ _ _ encoding rest (c.in-Some.ensures.own.0 refl) in
    copied_text c.args.handling c.args.encoding c.args.bytes.now own
    (c.in-Some.ensures.bytes ∙ sym rest) c.in_ok-text-in-Some.ensures.text
    c.in_ok-text-in-Some.ensures.nothing

pub returns-in_ok-text-in-Some-clause-flag : goal.returns-in_ok-text-in-Some-clause-flag
returns-in_ok-text-in-Some-clause-flag c =
    let encoding = c.begins_unmarked.ensures.encoding (search rules) in
    let rest = c.begins_unmarked.ensures.rest (search rules) in
    whole_own_valid c.args.handling c.args.encoding c.args.bytes.now
    (own_unmarked _ _ _ encoding rest (c.in-Some.ensures.own.0 refl))
