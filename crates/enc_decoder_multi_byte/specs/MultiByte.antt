-- Legacy multi-byte encodings without escape sequences (Encoding Standard 10 to 13), by the kinds
-- of prefixes.
use Rattle.std.specs.Prelude.{◌≡◌, ℕ, ◌<◌, ◌⊎◌, List, [], ◌∷◌}
use Rattle.enc_decoder.specs.declared.byte_codec.Text.{Text}
use Rattle.enc_decoder.specs.declared.byte_codec.Text.TheVariants.{One}
use Rattle.enc_decoder.specs.declared.prefix.Prefix.{Prefix}
use Rattle.enc_decoder.specs.declared.prefix.Prefix.TheVariants.{Complete, Malformed, Incomplete}
use Rattle.enc_decoder.specs.Prefixes.{ArePrefixes, HasAscii, AreSettledBelowDigits}
use Rattle.enc_decoder.specs.CodecLaw.{text_chars}
use Rattle.enc_decoder.specs.Need.{IsBmpText}

-- A byte after which another is needed. FF is malformed with it.
pub record IsLead (prefix : List ℕ → Prefix) (byte : ℕ) : Type 0 where
  pub is_byte : byte < 256
  pub incomplete : prefix (byte ∷ []) ≡ Incomplete
  pub malformed : prefix (byte ∷ 0xFF ∷ []) ≡ Malformed 2

-- The laws of prefixes in each of these encodings: those of all, ASCII, a lead byte, characters of
-- the Basic Multilingual Plane for single bytes, and bytes that end sequences.
pub record AreMultiBytePrefixes (prefix : List ℕ → Prefix) : Type 0 where
  pub prefixes : ArePrefixes prefix
  pub ascii : HasAscii prefix
  pub lead : ℕ
  pub leads : IsLead prefix lead
  pub alone : (b : ℕ) (text : Text) → prefix (b ∷ []) ≡ Complete text → IsBmpText (text_chars text)
  pub settled : AreSettledBelowDigits prefix

-- the first n of two bytes are malformed: of the first by itself, or since the second follows it
abbrev pub IsMalformedFront : (List ℕ → Prefix) → ℕ → ℕ → ℕ → Type 0
IsMalformedFront prefix lead b n = (prefix (lead ∷ []) ≡ Malformed n)
    ⊎ ((prefix (lead ∷ []) ≡ Incomplete) × (prefix (lead ∷ b ∷ []) ≡ Malformed n))

-- two bytes are a character, and the first of them is none by itself
pub record IsCharPair (prefix : List ℕ → Prefix) (lead b c : ℕ) : Type 0 where
  pub first : prefix (lead ∷ []) ≡ Incomplete
  pub both : prefix (lead ∷ b ∷ []) ≡ Complete (One c)
