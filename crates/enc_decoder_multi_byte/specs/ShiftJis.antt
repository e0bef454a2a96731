-- The rule of Shift_JIS, by lead byte, trail byte and pointer (Encoding Standard 12.3.1, "Shift_JIS
-- decoder").
use Rattle.std.specs.Prelude.{ℕ, ◌+◌, ◌-◌, ◌*◌, Bool, ◌&&◌, ◌||◌, nat_le, nat_lt, Option, Some, None, List}
use Rattle.std.specs.Prelude.{if◌then◌else◌}
use Rattle.enc_decoder.specs.declared.byte_codec.Text.{Text}
use Rattle.enc_decoder.specs.declared.prefix.Prefix.{Prefix}
use Rattle.enc_index.specs.Runs.{jis0208_at}
use Rattle.enc_decoder_multi_byte.specs.Katakana.{is_katakana_byte, katakana_of_byte}
use Rattle.enc_decoder_multi_byte.specs.DoubleByte.{text_of_char, double_byte_prefix}

-- the lead bytes
abbrev pub is_shift_jis_lead : ℕ → Bool
is_shift_jis_lead b = (nat_le 0x81 b && nat_le b 0x9F) || (nat_le 0xE0 b && nat_le b 0xFC)

-- the trail bytes
abbrev pub is_shift_jis_trail : ℕ → Bool
is_shift_jis_trail b = (nat_le 0x40 b && nat_le b 0x7E) || (nat_le 0x80 b && nat_le b 0xFC)

-- the pointer of a lead byte and a trail byte
abbrev pub shift_jis_pair_pointer : ℕ → ℕ → ℕ
shift_jis_pair_pointer lead trail =
    (lead - (if nat_lt lead 0xA0 then 0x81 else 0xC1)) * 188
    + (trail - (if nat_lt trail 0x7F then 0x40 else 0x41))

-- the character of a byte that stands alone
abbrev pub shift_jis_single_char : ℕ → Option ℕ
shift_jis_single_char b =
    if nat_le b 0x80 then Some b else if is_katakana_byte b then Some (katakana_of_byte b)
    else None

-- the character of a pointer; those for private use are in no index
abbrev pub shift_jis_pointer_char : ℕ → Option ℕ
shift_jis_pointer_char pointer =
    if nat_le 8836 pointer && nat_le pointer 10715 then Some (0xE000 + (pointer - 8836))
    else jis0208_at pointer

-- the text of a lead byte and the byte after it
abbrev pub shift_jis_pair_text : ℕ → ℕ → Option Text
shift_jis_pair_text lead b =
    text_of_char (if is_shift_jis_trail b
    then shift_jis_pointer_char (shift_jis_pair_pointer lead b) else None)

-- the kind of a prefix
abbrev pub shift_jis_prefix : List ℕ → Prefix
shift_jis_prefix = double_byte_prefix is_shift_jis_lead shift_jis_single_char shift_jis_pair_text
