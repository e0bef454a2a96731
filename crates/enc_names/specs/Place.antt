-- The place of a word in a table.
use Rattle.std.specs.Prelude.{ℕ, suc, List, [], ◌∷◌, Option, Some, None, option_map, if◌then◌else◌}
use Rattle.std.specs.Borrow.{Bor}
use Rattle.std.specs.Str.{bytes_eq}

-- the bytes of texts
abbrev pub texts_of : List (Bor (List ℕ)) → List (List ℕ)
texts_of [] = []
texts_of (text ∷ texts) = text.now ∷ texts_of texts

-- the first place of a word in a list, if it is there
abbrev pub word_place : List (List ℕ) → List ℕ → Option ℕ
word_place [] word = None
word_place (label ∷ labels) word =
    if bytes_eq label word then Some 0 else option_map suc (word_place labels word)
