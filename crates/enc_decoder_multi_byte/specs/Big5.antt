-- The rule of Big5, by lead byte, trail byte and pointer (Encoding Standard 11.1.1, "Big5
-- decoder").
use Rattle.std.specs.Prelude.{ℕ, ◌+◌, ◌-◌, ◌*◌, Bool, ◌&&◌, ◌||◌, ◌==◌, nat_le, nat_lt, Option, Some, None, List}
use Rattle.std.specs.Prelude.{if◌then◌else◌}
use Rattle.enc_decoder.specs.declared.byte_codec.Text.{Text}
use Rattle.enc_decoder.specs.declared.byte_codec.Text.TheVariants.{Two}
use Rattle.enc_decoder.specs.declared.prefix.Prefix.{Prefix}
use Rattle.enc_index.specs.Runs.{big5_at}
use Rattle.enc_decoder_multi_byte.specs.DoubleByte.{text_of_char, double_byte_prefix}

-- the lead bytes
abbrev pub is_big5_lead : ℕ → Bool
is_big5_lead b = nat_le 0x81 b && nat_le b 0xFE

-- the trail bytes
abbrev pub is_big5_trail : ℕ → Bool
is_big5_trail b = (nat_le 0x40 b && nat_le b 0x7E) || (nat_le 0xA1 b && nat_le b 0xFE)

-- the pointer of a lead byte and a trail byte
abbrev pub big5_pair_pointer : ℕ → ℕ → ℕ
big5_pair_pointer lead trail =
    (lead - 0x81) * 157 + (trail - (if nat_lt trail 0x7F then 0x40 else 0x62))

-- the character of a byte that stands alone
abbrev pub big5_single_char : ℕ → Option ℕ
big5_single_char b = if nat_lt b 0x80 then Some b else None

-- the text of a pointer; four pointers have a letter and a combining mark
abbrev pub big5_pointer_text : ℕ → Option Text
big5_pointer_text pointer =
    if pointer == 1133 then Some (Two 0xCA 0x304)
    else if pointer == 1135 then Some (Two 0xCA 0x30C)
    else if pointer == 1164 then Some (Two 0xEA 0x304)
    else if pointer == 1166 then Some (Two 0xEA 0x30C)
    else text_of_char (big5_at pointer)

-- the text of a lead byte and the byte after it
abbrev pub big5_pair_text : ℕ → ℕ → Option Text
big5_pair_text lead b =
    if is_big5_trail b then big5_pointer_text (big5_pair_pointer lead b) else None

-- the kind of a prefix
abbrev pub big5_prefix : List ℕ → Prefix
big5_prefix = double_byte_prefix is_big5_lead big5_single_char big5_pair_text
