use Rattle.std.proofs.Common.{refl}
use Rattle.enc_stream.proofs.OwnTextLemmas.{copied_text, whole_own_valid}
use Rattle.enc_stream.proofs.one_shot.decode_marked.Goals as goal

pub returns-in_ok-text-in-Some-clause-text : goal.returns-in_ok-text-in-Some-clause-text
returns-in_ok-text-in-Some-clause-text c =
    copied_text c.args.handling c.args.encoding c.args.bytes.now
    (rw (c.search-input.ensures.encoding, c.search-input.ensures.rest)
    at (c.in-Some.ensures.own.0 refl))
    (rw c.search-input.ensures.rest at c.in-Some.ensures.bytes) c.in_ok-text-in-Some.ensures.text
    c.in_ok-text-in-Some.ensures.nothing

pub returns-in_ok-text-in-Some-clause-flag : goal.returns-in_ok-text-in-Some-clause-flag
returns-in_ok-text-in-Some-clause-flag c =
    whole_own_valid c.args.handling c.args.encoding c.args.bytes.now
    (rw (c.search-input.ensures.encoding, c.search-input.ensures.rest)
    at (c.in-Some.ensures.own.0 refl))
