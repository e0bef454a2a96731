-- The table, by computation.
use Rattle.std.proofs.Common.{◌≡◌, ℕ, ◌<◌, true, Bool, List, [], length, map, Option, Some, None}
use Rattle.std.proofs.Common.{refl, ap, arith, nat_le, leb-true}
use Rattle.std.specs.Prelude.{IfSome}
use Rattle.std.specs.Borrow.{Bor}
use Rattle.std.specs.Char.{to_ascii_lowercase}
use Rattle.std.specs.List.{list_all}
use Rattle.std.proofs.lemmas.List.{length-map}
use Rattle.std.proofs.lemmas.List.Sums.{AllPass-from_list_all}
use Rattle.enc_names.specs.Order.{are_ascending_words}
use Rattle.enc_names.specs.Place.{word_place, texts_of}
use Rattle.enc_names.specs.Table.{table}
use Rattle.enc_names.specs.declared.words.TheConstants.{LONGEST}
use Rattle.enc_names.proofs.WordSearchLemmas.{missing, texts_len}

pub table_ascends : are_ascending_words table ≡ true
unfolding are_ascending_words table
table_ascends = refl

-- no label is longer than the longest

abbrev is_short : List ℕ → Bool
is_short word = nat_le (length word) LONGEST

all_short : list_all is_short table ≡ true
unfolding table
all_short = refl

pub longer_is_none : (word : List ℕ) → LONGEST < length word
    → word_place table (map to_ascii_lowercase word) ≡ None
longer_is_none word longer =
    missing table (map to_ascii_lowercase word) (λ j within same.
    let short = leb-true _ _ (AllPass-from_list_all is_short table all_short j [] within) in
    absurd (omega (arith, ap length same, length-map word to_ascii_lowercase)))

-- a place among the texts of the table is one in the table
pub within_table : (texts : List (Bor (List ℕ))) (place : Option ℕ) → texts_of texts ≡ table
    → IfSome place (λ i. i < length texts) → IfSome place (λ i. i < length table)
within_table texts None e h = h
within_table texts (Some i) e h =
    omega (arith, h, texts_len texts, ap length e)
