use Rattle.std.proofs.Common.{◌∙◌, sym, ap}
use Rattle.std.specs.Char.{is_ascii_whitespace}
use Rattle.enc_sniff.specs.Positions.{past}
use Rattle.enc_sniff.proofs.SpaceLemmas.{space_first, other_first}
use Rattle.enc_sniff.proofs.quoted.past_spaces.Goals as goal

pub returns-then-not-is_ascii_whitespace : goal.returns-then-not-is_ascii_whitespace
returns-then-not-is_ascii_whitespace c =
    other_first _ _ _ c.in-Some.ensures.value (sym c.if-not-is_ascii_whitespace.ensures.value)
    ∙ c.spaces.invariant

pub spaces-preserved : goal.spaces-preserved
spaces-preserved c =
    space_first _ _ _ c.in-Some.ensures.value (sym c.if-not-is_ascii_whitespace.ensures.value)
    ∙ c.spaces.invariant

pub returns-in-None : goal.returns-in-None
returns-in-None c =
    c.in-None.ensures.value ∙ ap (past is_ascii_whitespace) (sym c.in-None.ensures.value)
    ∙ c.spaces.invariant
