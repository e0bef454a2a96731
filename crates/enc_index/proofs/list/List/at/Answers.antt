-- Written by scripts/make-sources from data/templates: change the text there, and not this file.
use Rattle.std.proofs.Common.{◌≡◌, ◌∙◌, ℕ, ap, sym}
use Rattle.enc_index.specs.declared.list.List.{List as Index}
use Rattle.enc_index.specs.Index.{index_at}
use Rattle.enc_index.specs.Runs.{planes_of, runs_of}
use Rattle.enc_index.proofs.RangesAscend.{gb18030_ranges_ascends}
use Rattle.enc_index.proofs.Tables.Jis0212.{table as jis0212_table}
use Rattle.enc_index.proofs.list.List.at.Goals as goal

-- an arm's index is the one that was asked
of_index : (asked arm : Index) (pointer : ℕ) → asked ≡ arm
    → index_at (planes_of arm) (runs_of arm) pointer
    ≡ index_at (planes_of asked) (runs_of asked) pointer
of_index asked arm pointer h =
    sym (ap (λ index. index_at (planes_of index) (runs_of index) pointer) h)

pub character_among-requires : goal.character_among-requires
unfolding runs_of
character_among-requires c = record { ascending = gb18030_ranges_ascends }

pub returns-in-SingleByte : goal.returns-in-SingleByte
unfolding runs_of
returns-in-SingleByte c = c.at.ensures ∙ of_index _ _ c.args.pointer c.in-SingleByte.is

pub returns-in-Jis0212 : goal.returns-in-Jis0212
returns-in-Jis0212 c =
    c.character_in.ensures ∙ jis0212_table c.args.pointer
    ∙ of_index _ _ c.args.pointer c.in-Jis0212.is

pub returns-in-Gb18030Ranges : goal.returns-in-Gb18030Ranges
unfolding runs_of
returns-in-Gb18030Ranges c = c.character_among.ensures
    ∙ of_index _ _ c.args.pointer c.in-Gb18030Ranges.is
