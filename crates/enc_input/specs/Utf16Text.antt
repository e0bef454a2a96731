-- UTF-16 that is written as UTF-8.
use Rattle.std.specs.Prelude.{◌≡◌, ℕ, ◌≤◌, List, ◌++◌, length, drop}
use Rattle.std.specs.Char.{encode_utf8}
use Rattle.std.specs.Char.Utf16.{utf16_lossy_chars}
use Rattle.enc_utf8.specs.Text.{AreScalars, units_of_text}

-- The first n code units are characters, and the bytes are their UTF-8.
pub record AreUtf8OfUnits (units : List ℕ) (n : ℕ) (bytes : List ℕ) : Type 0 where
  pub within : n ≤ length units
  pub text : List ℕ
  pub scalars : AreScalars text
  pub reads : utf16_lossy_chars units ≡ text ++ utf16_lossy_chars (drop n units)
  pub written : bytes ≡ units_of_text encode_utf8 text
