-- Encodings with characters of one byte and two (Encoding Standard 10 to 13): bytes that stand
-- alone, and a lead byte with a trail byte.
use Rattle.std.specs.Prelude.{◌≡◌, ℕ, ◌+◌, ◌<◌, Bool, true, false, nat_lt, Option, Some, None, List, []}
use Rattle.std.specs.Prelude.{◌∷◌, if◌then◌else◌}
use Rattle.enc_decoder.specs.declared.byte_codec.Text.{Text}
use Rattle.enc_decoder.specs.declared.byte_codec.Text.TheVariants.{One}
use Rattle.enc_decoder.specs.declared.prefix.Prefix.{Prefix}
use Rattle.enc_decoder.specs.declared.prefix.Prefix.TheVariants.{Complete, Malformed, Incomplete}
use Rattle.enc_decoder.specs.Prefixes.{single_prefix, IsPrefixText}

-- the text of a character
abbrev pub text_of_char : Option ℕ → Option Text
text_of_char (Some c) = Some (One c)
text_of_char None = None

-- the first byte: a lead byte, or a byte that stands alone
abbrev pub first_prefix : Bool → Option ℕ → Prefix
first_prefix leads single = if leads then Incomplete else single_prefix single

-- A byte after n others: their text, or malformed, with that byte unless it is ASCII. An ASCII byte
-- is restored.
abbrev pub trail_prefix : ℕ → ℕ → Option Text → Prefix
trail_prefix n b (Some text) = Complete text
trail_prefix n b None = Malformed (if nat_lt b 0x80 then n else n + 1)

-- the kind of a prefix, by the lead bytes, the characters of other bytes, and the texts of a lead
-- byte with the byte after it
abbrev pub double_byte_prefix : (ℕ → Bool) → (ℕ → Option ℕ) → (ℕ → ℕ → Option Text) → List ℕ
    → Prefix
double_byte_prefix is_lead single pair [] = Incomplete
double_byte_prefix is_lead single pair (a ∷ []) = first_prefix (is_lead a) (single a)
double_byte_prefix is_lead single pair (a ∷ b ∷ z) = trail_prefix 1 b (pair a b)

-- The laws of leads, single bytes and pairs: an ASCII byte is no lead, and is the character with
-- its number; there is a lead; single bytes are characters of the Basic Multilingual Plane, pairs
-- have small texts, and FF is no trail byte.
pub record ArePairs
    (is_lead : ℕ → Bool) (single : ℕ → Option ℕ) (pair : ℕ → ℕ → Option Text)
    : Type 0 where
  pub ascii : (b : ℕ) → b < 0x80 → (is_lead b ≡ false) × (single b ≡ Some b)
  pub lead : ℕ
  pub is_byte : lead < 256
  pub leads : is_lead lead ≡ true
  pub basic : (b c : ℕ) → single b ≡ Some c → c < 0x1_0000
  pub texts : (a b : ℕ) (text : Text) → pair a b ≡ Some text → IsPrefixText text
  pub no_trail : (a : ℕ) → pair a 0xFF ≡ None

-- a lead byte and the byte after it are one character
abbrev pub IsLeadPair : (ℕ → Bool) → (ℕ → ℕ → Option Text) → ℕ → ℕ → ℕ → Type 0
IsLeadPair is_lead pair a b c = (is_lead a ≡ true) × (pair a b ≡ Some (One c))
