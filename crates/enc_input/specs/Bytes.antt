-- Lists of up to four bytes.
use Rattle.std.specs.Prelude.{ℕ, List, take}
use Rattle.enc_input.specs.declared.bytes.Bytes.{Bytes}

-- the bytes: the first `len` of four
abbrev pub byte_list : Bytes → List ℕ
byte_list b = take b.len b.bytes
