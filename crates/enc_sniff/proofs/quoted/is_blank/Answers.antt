use Rattle.std.proofs.Common.{◌∙◌, sym, ap}
use Rattle.std.specs.List.{list_all}
use Rattle.std.specs.Char.{is_ascii_whitespace}
use Rattle.enc_sniff.proofs.SpaceLemmas.{all_after_space, not_all}
use Rattle.enc_sniff.proofs.quoted.is_blank.Goals as goal

pub returns-then-not-is_ascii_whitespace : goal.returns-then-not-is_ascii_whitespace
returns-then-not-is_ascii_whitespace c =
    not_all _ _ _ c.in-Some.ensures.value (sym c.if-not-is_ascii_whitespace.ensures.value)
    ∙ c.bytes.invariant

pub bytes-preserved : goal.bytes-preserved
bytes-preserved c =
    all_after_space _ _ _ c.in-Some.ensures.value (sym c.if-not-is_ascii_whitespace.ensures.value)
    ∙ c.bytes.invariant

pub returns-in-None : goal.returns-in-None
returns-in-None c =
    ap (list_all is_ascii_whitespace) (sym c.in-None.ensures.value) ∙ c.bytes.invariant
