-- Ascending runs, as binary search requires them.
use Rattle.std.specs.Prelude.{ℕ, ◌+◌, Bool, true, ◌&&◌, nat_le, Option, Some, None, List, [], ◌∷◌, if◌then◌else◌}
use Rattle.enc_index.specs.Index.{Run}

-- each run begins at the bound or after it, and ends before the next one begins
unfoldable pub are_ascending_runs : ℕ → List Run → Bool
are_ascending_runs bound [] = true
are_ascending_runs bound (run ∷ runs) =
    (nat_le bound run.0 && nat_le run.0 run.1) && are_ascending_runs (run.1 + 1) runs

-- the first run that has a number from its first to its last
abbrev pub run_with_pointer : List Run → ℕ → Option Run
run_with_pointer [] n = None
run_with_pointer (run ∷ runs) n =
    if nat_le run.0 n && nat_le n run.1 then Some run else run_with_pointer runs n
