-- The bytes of characters in EUC-KR (Encoding Standard 13.1.2, "EUC-KR encoder").
use Rattle.std.specs.Prelude.{ℕ, ◌+◌, ◌/◌, ◌%◌, Option, List, [], ◌∷◌}
use Rattle.enc_index_pointers.specs.Pointers.{euc_kr_pointer}
use Rattle.enc_encoder.specs.Stateless.{with_ascii, bytes_of_pointer}

-- the two bytes of a pointer
abbrev pub euc_kr_pair_bytes : ℕ → List ℕ
euc_kr_pair_bytes p = (p / 190 + 0x81) ∷ (p % 190 + 0x41) ∷ []

-- the bytes of a character
abbrev pub euc_kr_bytes : ℕ → Option (List ℕ)
euc_kr_bytes = with_ascii (λ c. bytes_of_pointer euc_kr_pair_bytes (euc_kr_pointer c))
