-- Runs of characters that an encoder writes at once.
use Rattle.std.specs.Prelude.{◌≡◌, ℕ, ◌+◌, Bool, true, Some, List}
use Rattle.enc_encoder.specs.declared.character_set.CharacterSet.{CharacterSet}
use Rattle.enc_encoder.specs.EncoderRule.{EncoderRule, RawEncoderState}
use Rattle.enc_encoder.specs.Writes.{Writes, place}

-- the bytes are those of the character, and the character set has it
abbrev pub IsWrittenIn : EncoderRule → CharacterSet → List ℕ → ℕ → Type 0
IsWrittenIn e s bytes c = (e.bytes c ≡ Some bytes) × (e.has s c ≡ true)

-- The steps of the first characters are done. None is a report, and the designated character set
-- stays the same. Their bytes are written one after another to a slice, from `at` on. All other
-- bytes of the slice are unchanged.
abbrev pub WritesRun : RawEncoderState → List ℕ → List ℕ → List ℕ → List ℕ → ℕ → ℕ → Type 0
WritesRun v src rest before after at wrote = (last : Bool) (to : ℕ) → to ≡ at + wrote
    → Writes last (place v src before at) (place v rest after to)
