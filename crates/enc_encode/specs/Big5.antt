-- The bytes of characters in Big5 (Encoding Standard 11.1.2, "Big5 encoder").
use Rattle.std.specs.Prelude.{ℕ, ◌+◌, ◌/◌, ◌%◌, nat_lt, Option, List, [], ◌∷◌, if◌then◌else◌}
use Rattle.enc_index_pointers.specs.Pointers.{big5_pointer}
use Rattle.enc_encoder.specs.Stateless.{with_ascii, bytes_of_pointer}

-- the second byte of a cell of a row
abbrev pub big5_trail_byte : ℕ → ℕ
big5_trail_byte cell = cell + (if nat_lt cell 0x3F then 0x40 else 0x62)

-- the two bytes of a pointer
abbrev pub big5_pair_bytes : ℕ → List ℕ
big5_pair_bytes p = (p / 157 + 0x81) ∷ big5_trail_byte (p % 157) ∷ []

-- the bytes of a character
abbrev pub big5_bytes : ℕ → Option (List ℕ)
big5_bytes = with_ascii (λ c. bytes_of_pointer big5_pair_bytes (big5_pointer c))
