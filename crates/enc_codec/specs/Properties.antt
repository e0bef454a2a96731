-- Rules of encodings that are ASCII-compatible, and of those that are single-byte.
use Rattle.std.specs.Prelude.{◌≡◌, ℕ, ◌<◌, List, [], ◌∷◌, length}
use Rattle.std.specs.List.{AllByRecursion}
use Rattle.enc_decoder.specs.Sequence.{Sequence}
use Rattle.enc_decoder.specs.Segmentation.{Rule, sequences_of}
use Rattle.enc_decoder.specs.Remainder.{AreBytes}
use Rattle.enc_decoder.specs.RuleLaws.{IsDeterminedWithin}
use Rattle.enc_decoder.specs.Taking.{IsWholeChar}

-- To a decoder that has read nothing, each byte below 0x80 is a sequence by itself, of the
-- character with its number, whatever follows it.
abbrev pub IsAsciiCompatible : Rule → Type 0
IsAsciiCompatible rule = (b : ℕ) → b < 0x80 → IsWholeChar rule 0 (b ∷ []) b

-- a sequence of one byte that has a text
pub record IsByteWithText (s : Sequence) : Type 0 where
  pub one : length s.bytes ≡ 1
  pub text : s.text ≡ [] → ⊥

-- Each sequence of each input has one byte, and a text.
abbrev pub IsSingleByte : Rule → Type 0
IsSingleByte rule = (bytes : List ℕ) → AreBytes bytes
    → AllByRecursion IsByteWithText (sequences_of rule 0 bytes)

-- If EF before BB is a sequence of one byte, so is BB, with lookahead 0.
abbrev pub DeterminesBbByItself : Rule → Type 0
DeterminesBbByItself rule =
    (z : List ℕ) → (rule 0 0xEF (0xBB ∷ z)).more ≡ 0 → (y : List ℕ)
    → ((rule (rule 0 0xEF (0xBB ∷ z)).set 0xBB y).more ≡ 0)
    × IsDeterminedWithin rule (rule 0 0xEF (0xBB ∷ z)).set 0xBB y 0
