-- The bytes of characters in EUC-JP (Encoding Standard 12.1.2, "EUC-JP encoder").
use Rattle.std.specs.Prelude.{ℕ, ◌+◌, ◌/◌, ◌%◌, ◌==◌, Option, Some, List, [], ◌∷◌, if◌then◌else◌}
use Rattle.enc_index_pointers.specs.Pointers.{jis0208_pointer}
use Rattle.enc_encoder.specs.Stateless.{with_ascii, bytes_of_pointer}
use Rattle.enc_encode.specs.Japanese.{is_halfwidth_katakana, katakana_byte, with_fullwidth_minus}

-- the two bytes of a pointer
abbrev pub euc_jp_pair_bytes : ℕ → List ℕ
euc_jp_pair_bytes p = (p / 94 + 0xA1) ∷ (p % 94 + 0xA1) ∷ []

-- the bytes of a character beyond ASCII
abbrev pub euc_jp_other : ℕ → Option (List ℕ)
euc_jp_other c =
    if c == 0xA5 then Some (0x5C ∷ [])
    else if c == 0x203E then Some (0x7E ∷ [])
    else if is_halfwidth_katakana c then Some (0x8E ∷ katakana_byte c ∷ [])
    else bytes_of_pointer euc_jp_pair_bytes (jis0208_pointer (with_fullwidth_minus c))

-- the bytes of a character
abbrev pub euc_jp_bytes : ℕ → Option (List ℕ)
euc_jp_bytes = with_ascii euc_jp_other
