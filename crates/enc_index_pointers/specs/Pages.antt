-- A table of pointers by code points, in two levels.
use Rattle.std.specs.Prelude.{ℕ, ◌+◌, ◌*◌, ◌/◌, ◌%◌, nat_lt, List, length, get_or, Option, Some, None, if◌then◌else◌}

-- the number in the pages at a code point, and 0xFFFF beyond them
abbrev pub number_in_pages : List ℕ → List ℕ → ℕ → ℕ
number_in_pages page_of pointers c =
    get_or pointers (get_or page_of (c / 64) (length pointers) * 64 + c % 64) 0xFFFF

-- the pointer there, if it is below the bound
abbrev pub pointer_in_pages : List ℕ → List ℕ → ℕ → ℕ → Option ℕ
pointer_in_pages page_of pointers bound c =
    if nat_lt (number_in_pages page_of pointers c) bound
    then Some (number_in_pages page_of pointers c) else None
