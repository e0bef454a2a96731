-- The character of a pointer by the first run that has it.
use Rattle.std.proofs.Common.{◌≡◌, ℕ, ◌+◌, ◌-◌, Bool, true, false, ◌&&◌, nat_le, List, [], ◌∷◌, cond, Option, Some}
use Rattle.std.proofs.Common.{None, refl}
use Rattle.enc_index.specs.declared.table.Planes.{Planes}
use Rattle.enc_index.specs.Index.{Run, entry_character, index_at}
use Rattle.enc_index.specs.Search.{run_with_pointer}

abbrev pub character_of_run : Planes → ℕ → Option Run → Option ℕ
character_of_run planes pointer None = None
character_of_run planes pointer (Some run) = entry_character planes (run.2 + (pointer - run.0))

by_run : (planes : Planes) (pointer : ℕ) (run : Run) (other : Option ℕ) (rest : Option Run)
    (b : Bool)
    → other ≡ character_of_run planes pointer rest
    → cond b (entry_character planes (run.2 + (pointer - run.0))) other
    ≡ character_of_run planes pointer (cond b (Some run) rest)
by_run planes pointer run other rest true h = refl
by_run planes pointer run other rest false h = h

pub index_at-run_with_pointer : (planes : Planes) (runs : List Run) (pointer : ℕ)
    → index_at planes runs pointer ≡ character_of_run planes pointer (run_with_pointer runs pointer)
index_at-run_with_pointer planes [] pointer = refl
index_at-run_with_pointer planes (run ∷ runs) pointer =
    by_run planes pointer run (index_at planes runs pointer) (run_with_pointer runs pointer)
    (nat_le run.0 pointer && nat_le pointer run.1)
    (index_at-run_with_pointer planes runs pointer)
