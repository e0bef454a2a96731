use Rattle.std.proofs.Common.{◌∙◌, refl, rules, sym}
use Rattle.enc_stream.specs.OwnText.{IsItsOwnText}
use Rattle.enc_stream.proofs.OwnTextLemmas.{own_unmarked, whole_own_text, whole_own_valid}
use Rattle.enc_stream.proofs.lending.lend_whole.Goals as goal

pub returns-in-Some-clause-text : goal.returns-in-Some-clause-text
returns-in-Some-clause-text c =
    let encoding = c.begins_unmarked.ensures.encoding (search rules) in
    let rest = c.begins_unmarked.ensures.rest (search rules) in
    let own : IsItsOwnText c.args.handling c.args.encoding c.args.bytes.now =
    own_unmarked _ _ _ encoding rest (c.in-Some.ensures.own.0 refl) in
    c.in-Some.ensures.bytes ∙ sym rest
    ∙ whole_own_text c.args.handling c.args.encoding c.args.bytes.now own

pub returns-in-Some-clause-flag : goal.returns-in-Some-clause-flag
returns-in-Some-clause-flag c =
    let encoding = c.begins_unmarked.ensures.encoding (search rules) in
    let rest = c.begins_unmarked.ensures.rest (search rules) in
    whole_own_valid c.args.handling c.args.encoding c.args.bytes.now
    (own_unmarked _ _ _ encoding rest (c.in-Some.ensures.own.0 refl))
