-- The bytes of characters in the legacy single-byte encodings (Encoding Standard 9.2, "single-byte
-- encoder") and in x-user-defined (14.5.2).
use Rattle.std.specs.Prelude.{ℕ, ◌+◌, ◌-◌, ◌&&◌, nat_le, Option, Some, None, List, [], ◌∷◌, if◌then◌else◌}
use Rattle.enc_index.specs.declared.single_byte_index.SingleByteIndex.{SingleByteIndex}
use Rattle.enc_index_pointers.specs.Pointers.{single_byte_pointer}
use Rattle.enc_encoder.specs.Stateless.{with_ascii, bytes_of_pointer}

-- the byte of a pointer
abbrev pub single_byte_of_pointer : ℕ → List ℕ
single_byte_of_pointer p = (p + 0x80) ∷ []

-- the byte of a character in a legacy single-byte encoding
abbrev pub single_byte_bytes : SingleByteIndex → ℕ → Option (List ℕ)
single_byte_bytes index =
    with_ascii (λ c. bytes_of_pointer single_byte_of_pointer (single_byte_pointer index c))

-- U+F780 to U+F7FF are 80 to FF
abbrev pub x_user_defined_other : ℕ → Option (List ℕ)
x_user_defined_other c =
    if nat_le 0xF780 c && nat_le c 0xF7FF then Some ((c - 0xF780 + 0x80) ∷ []) else None

-- the byte of a character in x-user-defined
abbrev pub x_user_defined_bytes : ℕ → Option (List ℕ)
x_user_defined_bytes = with_ascii x_user_defined_other
