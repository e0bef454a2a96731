-- What is printed of the faults of a reader, and their kinds as I/O errors.
use Rattle.std.specs.Prelude.{◌≡◌, ◌≢◌, ℕ, ◌⊎◌, List, ◌++◌, Option, Some, None, codes}
use Rattle.std.specs.IoError.{error_kind}
use Rattle.std.specs.declared.io.Error.{Error}
use Rattle.std.specs.declared.io.ErrorKind.{ErrorKind}
use Rattle.std.specs.declared.io.ErrorKind.TheVariants.{Other, OutOfMemory, InvalidData, Interrupted}
use Rattle.enc_reader.specs.declared.decode_reader.ReadFault.{ReadFault}
use Rattle.enc_reader.specs.declared.decode_reader.ReadFault.TheVariants.{Reader, Failed}
use Rattle.enc_reader.specs.declared.caused.Caused.{Caused}
use Rattle.enc_reader.specs.declared.line_fault.LineFault.{LineFault}
use Rattle.enc_reader.specs.declared.line_fault.LineFault.TheVariants.{Read, Memory, MidCharacter}
use Rattle.enc_reader.specs.declared.line_reader_fault.LineReaderFault.{LineReaderFault}
use Rattle.enc_reader.specs.declared.line_reader_fault.LineReaderFault.TheVariants as stop
use Rattle.std.specs.Fmt.{decimal}

abbrev pub read_fault_text : ReadFault → List ℕ
read_fault_text Reader = codes "the source of the text failed"
read_fault_text Failed = codes "the reader of the text has failed before"

abbrev pub line_fault_text : LineFault → List ℕ
line_fault_text (Read fault) = read_fault_text fault
line_fault_text Memory = codes "out of memory"
line_fault_text MidCharacter = codes "a part of a character is taken"

abbrev pub line_error_kind : LineFault → ErrorKind
line_error_kind (Read fault) = Other
line_error_kind Memory = OutOfMemory
line_error_kind MidCharacter = InvalidData

-- a fault of a line with its place
abbrev pub line_reader_fault_text : LineReaderFault → List ℕ
line_reader_fault_text (stop.Read fault) = read_fault_text fault
line_reader_fault_text stop.Memory = codes "out of memory"
line_reader_fault_text (stop.Malformed found) =
    codes "malformed bytes in line " ++ (decimal found.position.line
    ++ (codes ", column " ++ decimal found.position.column))

abbrev pub line_reader_error_kind : LineReaderFault → ErrorKind
line_reader_error_kind (stop.Read fault) = Other
line_reader_error_kind stop.Memory = OutOfMemory
line_reader_error_kind (stop.Malformed found) = InvalidData

-- The I/O error of a reader whose source keeps this error: that one, or one of the kind `Other`.
-- It is never of the kind `Interrupted`, which asks for another call.
pub record IsErrorOfReader (kept : Option Error) (error : Error) : Type 0 where
  pub either : (kept ≡ Some error) ⊎ (error_kind error ≡ Other)
  pub retried : error_kind error ≢ Interrupted

-- What is printed of a fault with its cause: that of the fault, if there is no cause. No text of an
-- I/O error is modelled.
abbrev pub printed_with_cause : Option (List ℕ) → Option Error → Option (List ℕ)
printed_with_cause fault None = fault
printed_with_cause fault (Some cause) = None

-- The I/O error of a fault: its cause, or one of this kind if it has none.
abbrev pub IsCauseOrOf : Option Error → ErrorKind → Error → Type 0
IsCauseOrOf (Some cause) kind error = error ≡ cause
IsCauseOrOf None kind error = error_kind error ≡ kind

-- a fault of a read, as one of a line
pub record IsLineErrorOf (read : Caused ReadFault) (line : Caused LineFault) : Type 0 where
  pub fault : line.fault ≡ Read read.fault
  pub cause : line.cause ≡ read.cause
