-- What is printed of a fault of a write.
use Rattle.std.specs.Prelude.{ℕ, List, Option, None, Some, codes}
use Rattle.std.specs.declared.io.Error.{Error}
use Rattle.enc_writer.specs.declared.fault.WriteFault.{WriteFault}
use Rattle.enc_writer.specs.declared.fault.WriteFault.TheVariants.{Writer, Failed}

abbrev pub write_fault_text : WriteFault → List ℕ
write_fault_text Writer = codes "write failed"
write_fault_text Failed = codes "an earlier write failed"

-- The text of a fault with its cause, where it is known: that of the fault alone. The texts of the
-- causes are those of the system.
abbrev pub write_error_text : WriteFault → Option Error → Option (List ℕ)
write_error_text fault None = Some (write_fault_text fault)
write_error_text fault (Some cause) = None
