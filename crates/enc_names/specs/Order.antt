-- The order of the table of labels: by length, and words of one length by their bytes from the last
-- to the first.
use Rattle.std.specs.Prelude.{ℕ, ◌+◌, ◌*◌, Bool, true, ◌&&◌, nat_lt, List, [], ◌∷◌}

-- The order is that of numbers: the digits of a word's number are its bytes plus one, the first the
-- least.
abbrev pub word_number : List ℕ → ℕ
word_number [] = 0
word_number (b ∷ word) = (b + 1) + 257 * word_number word

-- each word comes after the one before it
unfoldable pub are_ascending_words : List (List ℕ) → Bool
are_ascending_words [] = true
are_ascending_words (one ∷ []) = true
are_ascending_words (one ∷ two ∷ words) =
    nat_lt (word_number one) (word_number two) && are_ascending_words (two ∷ words)
