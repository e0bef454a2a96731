-- Code units of UTF-16, in which a surrogate without its partner is U+FFFD (Unicode Standard 3.9,
-- D91).
use Rattle.std.specs.Prelude.{◌≡◌, ℕ, ◌≤◌, ◌<◌, List, ◌∷◌, length, drop}
use Rattle.std.specs.Char.Escape.{encode_utf16}
use Rattle.std.specs.Char.Utf16.{lone_unit_char, utf16_lossy_chars}
use Rattle.std.specs.Option.{unwrap_or}

-- the character of a code unit that is in no pair
abbrev pub lossy_unit_char : ℕ → ℕ
lossy_unit_char u = unwrap_or (lone_unit_char u) 0xFFFD

-- a surrogate pair
abbrev pub IsSurrogatePair : ℕ → ℕ → Type 0
IsSurrogatePair u v = (0xD800 ≤ u) × (u < 0xDC00) × (0xDC00 ≤ v) × (v < 0xE000)

-- UTF-16 begins with the character c, of n code units
pub record IsFirstUtf16Char (units : List ℕ) (c n : ℕ) : Type 0 where
  pub within : n ≤ length units
  pub chars : utf16_lossy_chars units ≡ c ∷ utf16_lossy_chars (drop n units)
  pub width : n ≡ length (encode_utf16 c)
