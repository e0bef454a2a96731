-- What is printed of the side that has failed, and its error.
use Rattle.std.specs.Prelude.{◌≡◌, ℕ, List, Option, Some, None, codes}
use Rattle.std.specs.IoError.{error_kind}
use Rattle.std.specs.declared.io.Error.{Error}
use Rattle.std.specs.declared.io.ErrorKind.TheVariants.{Other}
use Rattle.recode_engine.specs.declared.engine.RecodeFault.{RecodeFault}
use Rattle.recode_engine.specs.declared.engine.RecodeFault.TheVariants.{Read, Write}

abbrev pub recode_fault_text : RecodeFault → List ℕ
recode_fault_text Read = codes "read failed"
recode_fault_text Write = codes "write failed"

-- The text of a fault with its cause, if there is none: no text of an I/O error is modelled.
abbrev pub recode_error_text : RecodeFault → Option Error → Option (List ℕ)
recode_error_text fault None = Some (recode_fault_text fault)
recode_error_text fault (Some cause) = None

-- The I/O error of a fault: its cause, or one of the kind `Other` if it has none.
abbrev pub IsErrorOfRun : Option Error → Error → Type 0
IsErrorOfRun (Some cause) error = error ≡ cause
IsErrorOfRun None error = error_kind error ≡ Other
