-- Positions in some bytes. A position is the list of the bytes from it on, which is empty at the
-- end.
use Rattle.std.specs.Prelude.{ℕ, Bool, true, not, nat_eq, if◌then◌else◌, ◌==◌, List, [], ◌∷◌}
use Rattle.std.specs.Prelude.{length, take, drop, map, Option, Some, None}
use Rattle.std.specs.List.{prefix_len, take_while, starts_with}
use Rattle.std.specs.Char.{to_ascii_lowercase}
use Rattle.std.specs.Str.{bytes_eq}

-- the position after the bytes that pass a test
abbrev pub past : (ℕ → Bool) → List ℕ → List ℕ
past test s = drop (prefix_len test s) s

-- whether it is another byte than this one
abbrev pub is_not : ℕ → ℕ → Bool
is_not end b = not (b == end)

-- a double or a single quotation mark
abbrev pub is_quote : ℕ → Bool
is_quote b = if b == 0x22 then true else b == 0x27

-- some bytes and the position after the byte that follows them, if one does
abbrev pub with_end : List ℕ → List ℕ → Option (List ℕ × List ℕ)
with_end text [] = None
with_end text (b ∷ rest) = Some (text, rest)

-- the bytes before the first byte that is equal to this one, and the position after it
abbrev pub up_to : ℕ → List ℕ → Option (List ℕ × List ℕ)
up_to end s = with_end (take_while (is_not end) s) (past (is_not end) s)

-- whether two words are the same with A to Z as a to z
abbrev pub is_same_word : List ℕ → List ℕ → Bool
is_same_word a b = bytes_eq (map to_ascii_lowercase a) (map to_ascii_lowercase b)

-- whether these bytes stand here, or letters of the other case
abbrev pub begins_in_either_case : List ℕ → List ℕ → Bool
begins_in_either_case s word = is_same_word (take (length word) s) word

-- the position after the first occurrence of a word, if it occurs
abbrev pub past_word : List ℕ → List ℕ → Option (List ℕ)
past_word word [] = None
past_word word (b ∷ s) =
    if starts_with nat_eq (b ∷ s) word then Some (drop (length word) (b ∷ s)) else past_word word s
