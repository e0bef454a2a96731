-- The value of the UTF-16 decoders: the byte order and the pending bytes.
use Rattle.std.specs.Prelude.{Bool}
use Rattle.enc_decoder.specs.declared.pending.Pending.{Pending}

pub record Utf16State : Type 0 where
  pub big_endian : Bool
  pub pending : Pending

abbrev pub with_pending : Bool → Pending → Utf16State
with_pending big p = record { big_endian = big; pending = p }
