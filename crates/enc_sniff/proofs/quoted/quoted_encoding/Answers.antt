use Rattle.std.proofs.Common.{◌∙◌, sym, take}
use Rattle.enc_sniff.specs.HeaderTokens.{unquoted}
use Rattle.enc_sniff.proofs.LabelLemmas.{label_is, no_label}
use Rattle.enc_sniff.proofs.quoted.quoted_encoding.Goals as goal

pub returns-then-is_blank : goal.returns-then-is_blank
returns-then-is_blank c =
    c.for_label.ensures
    ∙ label_is (unquoted c.args.text.now)
    (take c.copy_label-len.result.0 c.copy_label-len.new.room)
    (unquoted c.copy_label-len.result.1.now)
    (c.copy_label-len.ensures.copied ∙ c.past_spaces.ensures) (sym c.if-is_blank.ensures)

pub returns-else-is_blank : goal.returns-else-is_blank
returns-else-is_blank c =
    no_label (unquoted c.args.text.now) c.copy_label-len.new.room
    (unquoted c.copy_label-len.result.1.now) c.copy_label-len.result.0
    (c.copy_label-len.ensures.copied ∙ c.past_spaces.ensures) (sym c.if-is_blank.ensures)
    c.copy_label-len.ensures.full c.copy_label-len.ensures.within c.copy_label-len.ensures.kept
