-- The rule of EUC-JP, by bytes and pointers (Encoding Standard 12.1.1, "EUC-JP decoder").
use Rattle.std.specs.Prelude.{ℕ, ◌+◌, ◌-◌, ◌*◌, Bool, ◌&&◌, ◌||◌, ◌==◌, nat_le, nat_lt, Option, Some, None, List, []}
use Rattle.std.specs.Prelude.{◌∷◌, if◌then◌else◌}
use Rattle.enc_decoder.specs.declared.prefix.Prefix.{Prefix}
use Rattle.enc_decoder.specs.declared.prefix.Prefix.TheVariants.{Incomplete}
use Rattle.enc_index.specs.Runs.{jis0208_at, jis0212_at}
use Rattle.enc_decoder_multi_byte.specs.Katakana.{is_katakana_byte, katakana_of_byte}
use Rattle.enc_decoder_multi_byte.specs.DoubleByte.{text_of_char, first_prefix, trail_prefix}

-- a byte of a two-byte character of JIS X 0208 or JIS X 0212
abbrev pub is_euc_byte : ℕ → Bool
is_euc_byte b = nat_le 0xA1 b && nat_le b 0xFE

-- the pointer of two such bytes
abbrev pub euc_pair_pointer : ℕ → ℕ → ℕ
euc_pair_pointer lead trail = (lead - 0xA1) * 94 + (trail - 0xA1)

-- 8E leads half-width katakana, and 8F two bytes of JIS X 0212
abbrev pub is_euc_jp_lead : ℕ → Bool
is_euc_jp_lead b = b == 0x8E || (b == 0x8F || is_euc_byte b)

-- the character of a byte that stands alone
abbrev pub euc_jp_single_char : ℕ → Option ℕ
euc_jp_single_char b = if nat_lt b 0x80 then Some b else None

-- the character of two bytes after which no third is required
abbrev pub euc_jp_pair_char : ℕ → ℕ → Option ℕ
euc_jp_pair_char lead b =
    if lead == 0x8E then (if is_katakana_byte b then Some (katakana_of_byte b) else None)
    else if is_euc_byte lead && is_euc_byte b then jis0208_at (euc_pair_pointer lead b)
    else None

-- the character of two bytes after 8F
abbrev pub euc_jp_triple_char : ℕ → ℕ → Option ℕ
euc_jp_triple_char lead b = if is_euc_byte b then jis0212_at (euc_pair_pointer lead b) else None

-- the kind of a prefix
abbrev pub euc_jp_prefix : List ℕ → Prefix
euc_jp_prefix [] = Incomplete
euc_jp_prefix (a ∷ []) = first_prefix (is_euc_jp_lead a) (euc_jp_single_char a)
euc_jp_prefix (a ∷ b ∷ []) =
    if a == 0x8F && is_euc_byte b then Incomplete else trail_prefix 1 b
    (text_of_char (euc_jp_pair_char a b))
euc_jp_prefix (a ∷ b ∷ c ∷ z) = trail_prefix 2 c (text_of_char (euc_jp_triple_char b c))
