use Rattle.std.proofs.Common.{refl, ◌∙◌}
use Rattle.enc_stream.proofs.OwnTextLemmas.{whole_own_text, whole_own_valid}
use Rattle.enc_stream.proofs.lending.lend_marked.Goals as goal

pub returns-in-Some-clause-text : goal.returns-in-Some-clause-text
returns-in-Some-clause-text c =
    rw c.search-input.ensures.rest at c.in-Some.ensures.bytes
    ∙ whole_own_text c.args.handling c.args.encoding c.args.bytes.now
    (rw (c.search-input.ensures.encoding, c.search-input.ensures.rest)
    at (c.in-Some.ensures.own.0 refl))

pub returns-in-Some-clause-flag : goal.returns-in-Some-clause-flag
returns-in-Some-clause-flag c =
    whole_own_valid c.args.handling c.args.encoding c.args.bytes.now
    (rw (c.search-input.ensures.encoding, c.search-input.ensures.rest)
    at (c.in-Some.ensures.own.0 refl))
