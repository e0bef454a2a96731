use Rattle.std.proofs.Common.{sym, ap, ◌∙◌}
use Rattle.enc_names.specs.Order.{are_ascending_words}
use Rattle.enc_names.proofs.TableLemmas.{table_ascends, longer_is_none, within_table}
use Rattle.enc_names.proofs.search.place.Goals as goal

pub returns-then-word-gt-LONGEST-clause-place : goal.returns-then-word-gt-LONGEST-clause-place
returns-then-word-gt-LONGEST-clause-place c = sym (longer_is_none _ c.if-word-gt-LONGEST.true)

pub search-requires : goal.search-requires
search-requires c = record { ascending = ap are_ascending_words c.labels.ensures ∙ table_ascends }

pub returns-clause-within : goal.returns-clause-within
returns-clause-within c = within_table _ _ c.labels.ensures c.search.ensures.within
