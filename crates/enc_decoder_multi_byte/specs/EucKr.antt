-- The rule of EUC-KR, by lead byte, trail byte and pointer (Encoding Standard 13.1.1, "EUC-KR
-- decoder").
use Rattle.std.specs.Prelude.{ℕ, ◌+◌, ◌-◌, ◌*◌, Bool, ◌&&◌, nat_le, nat_lt, Option, Some, None, List, if◌then◌else◌}
use Rattle.enc_decoder.specs.declared.byte_codec.Text.{Text}
use Rattle.enc_decoder.specs.declared.prefix.Prefix.{Prefix}
use Rattle.enc_index.specs.Runs.{euc_kr_at}
use Rattle.enc_decoder_multi_byte.specs.DoubleByte.{text_of_char, double_byte_prefix}

-- the lead bytes
abbrev pub is_euc_kr_lead : ℕ → Bool
is_euc_kr_lead b = nat_le 0x81 b && nat_le b 0xFE

-- the trail bytes
abbrev pub is_euc_kr_trail : ℕ → Bool
is_euc_kr_trail b = nat_le 0x41 b && nat_le b 0xFE

-- the pointer of a lead byte and a trail byte
abbrev pub euc_kr_pair_pointer : ℕ → ℕ → ℕ
euc_kr_pair_pointer lead trail = (lead - 0x81) * 190 + (trail - 0x41)

-- the character of a byte that stands alone
abbrev pub euc_kr_single_char : ℕ → Option ℕ
euc_kr_single_char b = if nat_lt b 0x80 then Some b else None

-- the text of a lead byte and the byte after it
abbrev pub euc_kr_pair_text : ℕ → ℕ → Option Text
euc_kr_pair_text lead b =
    text_of_char (if is_euc_kr_trail b then euc_kr_at (euc_kr_pair_pointer lead b) else None)

-- the kind of a prefix
abbrev pub euc_kr_prefix : List ℕ → Prefix
euc_kr_prefix = double_byte_prefix is_euc_kr_lead euc_kr_single_char euc_kr_pair_text
