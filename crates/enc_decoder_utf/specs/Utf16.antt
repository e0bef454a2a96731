-- The rule of UTF-16, big-endian or little-endian (Encoding Standard 14.2, "shared UTF-16
-- decoder").
use Rattle.std.specs.Prelude.{ℕ, ◌+◌, ◌-◌, ◌*◌, Bool, true, false, ◌&&◌, nat_le, List, [], ◌∷◌, if◌then◌else◌}
use Rattle.enc_decoder.specs.declared.byte_codec.Text.TheVariants.{One}
use Rattle.enc_decoder.specs.declared.prefix.Prefix.{Prefix}
use Rattle.enc_decoder.specs.declared.prefix.Prefix.TheVariants.{Complete, Malformed, Incomplete}
use Rattle.enc_decoder.specs.Segmentation.{Rule}
use Rattle.enc_decoder.specs.Prefixes.{prefix_rule}

-- the code unit of two bytes, big-endian or little-endian
unfoldable pub code_unit : Bool → ℕ → ℕ → ℕ
code_unit true b c = b * 256 + c
code_unit false b c = c * 256 + b

-- the surrogates that begin a pair, and those that end it
unfoldable pub is_lead_surrogate : ℕ → Bool
is_lead_surrogate u = nat_le 0xD800 u && nat_le u 0xDBFF

unfoldable pub is_trail_surrogate : ℕ → Bool
is_trail_surrogate u = nat_le 0xDC00 u && nat_le u 0xDFFF

-- the scalar value of a surrogate pair
unfoldable pub pair_scalar : ℕ → ℕ → ℕ
pair_scalar lead trail = 0x10000 + (lead - 0xD800) * 0x400 + (trail - 0xDC00)

-- the two bytes of a code unit: they begin a pair, or are a character or an unpaired surrogate
abbrev pub unit_prefix : ℕ → Prefix
unit_prefix u =
    if is_lead_surrogate u then Incomplete
    else if is_trail_surrogate u then Malformed 2 else Complete (One u)

-- The kind of a prefix, big-endian or little-endian. A code unit after a lead surrogate that is no
-- trail surrogate is restored.
abbrev pub utf_16_prefix : Bool → List ℕ → Prefix
utf_16_prefix big [] = Incomplete
utf_16_prefix big (a ∷ []) = Incomplete
utf_16_prefix big (a ∷ b ∷ []) = unit_prefix (code_unit big a b)
utf_16_prefix big (a ∷ b ∷ c ∷ []) = Incomplete
utf_16_prefix big (a ∷ b ∷ c ∷ d ∷ z) =
    if is_trail_surrogate (code_unit big c d)
    then Complete (One (pair_scalar (code_unit big a b) (code_unit big c d)))
    else Malformed 2

-- The first sequence, big-endian or little-endian. A single byte at the end of the input is
-- malformed, and so is a lead surrogate there, with the byte after it if there is one.
abbrev pub utf_16_rule : Bool → Rule
utf_16_rule big = prefix_rule (utf_16_prefix big)
