-- Indexes (Encoding Standard 5): characters by pointers.
use Rattle.std.specs.Prelude.{ℕ, ◌+◌, ◌-◌, Bool, ◌&&◌, ◌||◌, nat_le, nat_lt, Option, Some, None, List, [], ◌∷◌}
use Rattle.std.specs.Prelude.{if◌then◌else◌}
use Rattle.enc_index.specs.declared.table.Planes.{Planes}
use Rattle.enc_index.specs.declared.table.Planes.TheVariants.{Basic, All}

-- a run of entries: first pointer, last pointer, and the code point of the first
abbrev pub Run : Type 0
Run = ℕ × ℕ × ℕ

-- the last code point of an index's planes
abbrev pub last_code_point : Planes → ℕ
last_code_point Basic = 0xFFFF
last_code_point All = 0x10FFFF

-- whether an entry can have a code point: one of the planes from U+0001 on, and no surrogate
abbrev pub is_entry_code_point : Planes → ℕ → Bool
is_entry_code_point planes c =
    nat_lt 0 c && (nat_lt c 0xD800 || (nat_le 0xE000 c && nat_le c (last_code_point planes)))

-- the character of a code point, if an entry can have it
abbrev pub entry_character : Planes → ℕ → Option ℕ
entry_character planes c = if is_entry_code_point planes c then Some c else None

-- The character of a pointer in an index of runs (first pointer, last pointer, first code point):
-- that of the first run that has the pointer. If none has it, or its entry has no character, the
-- pointer is unmapped.
abbrev pub index_at : Planes → List Run → ℕ → Option ℕ
index_at planes [] pointer = None
index_at planes (run ∷ runs) pointer =
    if nat_le run.0 pointer
    && nat_le pointer run.1 then entry_character planes (run.2 + (pointer - run.0))
    else index_at planes runs pointer
