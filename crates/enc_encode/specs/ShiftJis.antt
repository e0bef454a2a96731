-- The bytes of characters in Shift_JIS (Encoding Standard 12.3.2, "Shift_JIS encoder").
use Rattle.std.specs.Prelude.{ℕ, ◌+◌, ◌/◌, ◌%◌, ◌==◌, nat_lt, Option, Some, List, [], ◌∷◌, if◌then◌else◌}
use Rattle.enc_index_pointers.specs.Pointers.{shift_jis_pointer}
use Rattle.enc_encoder.specs.Stateless.{with_ascii, bytes_of_pointer}
use Rattle.enc_encode.specs.Japanese.{is_halfwidth_katakana, katakana_byte, with_fullwidth_minus}

-- the first byte of a row
abbrev pub shift_jis_lead_byte : ℕ → ℕ
shift_jis_lead_byte row = row + (if nat_lt row 0x1F then 0x81 else 0xC1)

-- the second byte of a cell of a row
abbrev pub shift_jis_trail_byte : ℕ → ℕ
shift_jis_trail_byte cell = cell + (if nat_lt cell 0x3F then 0x40 else 0x41)

-- the two bytes of a pointer
abbrev pub shift_jis_pair_bytes : ℕ → List ℕ
shift_jis_pair_bytes p = shift_jis_lead_byte (p / 188) ∷ shift_jis_trail_byte (p % 188) ∷ []

-- the bytes of a character beyond ASCII
abbrev pub shift_jis_other : ℕ → Option (List ℕ)
shift_jis_other c =
    if c == 0x80 then Some (0x80 ∷ [])
    else if c == 0xA5 then Some (0x5C ∷ [])
    else if c == 0x203E then Some (0x7E ∷ [])
    else if is_halfwidth_katakana c then Some (katakana_byte c ∷ [])
    else bytes_of_pointer shift_jis_pair_bytes (shift_jis_pointer (with_fullwidth_minus c))

-- the bytes of a character
abbrev pub shift_jis_bytes : ℕ → Option (List ℕ)
shift_jis_bytes = with_ascii shift_jis_other
