-- The exit status of a run: 0, 1 or 3.
use Rattle.std.specs.Prelude.{ℕ, Bool, true, false, Ok, Err}
use Rattle.std.specs.declared.result.Result.{Result}
use Rattle.recode_engine.specs.declared.engine.RecodeFault.{RecodeFault}

-- 0 if nothing was replaced, 1 if something was, 3 after a fault
abbrev pub status_of : Result Bool RecodeFault → ℕ
status_of (Ok false) = 0
status_of (Ok true) = 1
status_of (Err fault) = 3
