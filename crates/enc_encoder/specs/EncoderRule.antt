-- The rule of an encoder: the bytes of characters, and the character sets that it designates
-- (Encoding Standard 4.1, "encoder").
use Rattle.std.specs.Prelude.{◌≡◌, ℕ, ◌≤◌, ◌⊎◌, Bool, true, false, Option, Some, None, List, [], ◌∷◌, ◌++◌, length}
use Rattle.std.specs.Prelude.{if◌then◌else◌}
use Rattle.enc_encoder.specs.declared.character_set.CharacterSet.{CharacterSet}
use Rattle.enc_encoder.specs.declared.character_set.CharacterSet.TheVariants.{Ascii, Roman, Jis0208}

-- the rule of an encoding's encoder
pub record EncoderRule : Type 0 where
  -- The bytes of a character, in a character set that has it; none if it is unmappable. Nothing
  -- else decides whether a character is mappable.
  pub bytes : ℕ → Option (List ℕ)
  -- the character that an unmappable one is reported as
  pub reported : ℕ → ℕ
  -- whether a character set has a mappable character
  pub has : CharacterSet → ℕ → Bool
  -- the character set that is designated for a mappable character, if the present one lacks it
  pub designated : ℕ → CharacterSet
  -- the character set after a text of mappable characters, by the one before it
  pub set_after : CharacterSet → List ℕ → CharacterSet

-- a raw encoder between two calls: its rule, and the designated character set
pub record RawEncoderState : Type 0 where
  pub rule : EncoderRule
  pub set : CharacterSet

-- whether an escape sequence is due at the end of the text
abbrev pub is_escape_due : CharacterSet → Bool
is_escape_due Ascii = false
is_escape_due Roman = true
is_escape_due Jis0208 = true

-- the character set in which a mappable character is written
abbrev pub set_for : EncoderRule → CharacterSet → ℕ → CharacterSet
set_for e s c = if e.has s c then s else e.designated c

-- `&`, `#`, `;` and the digits, of which decimal character references are made
abbrev pub IsReferenceCharacter : ℕ → Type 0
IsReferenceCharacter c = (c ≡ 0x26) ⊎ ((c ≡ 0x23) ⊎ ((c ≡ 0x3B) ⊎ ((0x30 ≤ c) × (c ≤ 0x39))))

-- at most four bytes
abbrev pub AreAtMostFour : Option (List ℕ) → Type 0
AreAtMostFour None = Unit {0}
AreAtMostFour (Some b) = length b ≤ 4

-- The laws of every encoder's rule: a character is written in a character set that has it. The set
-- after a text is that of its last character. The characters of references are written as
-- themselves, all in the same sets. A character has at most four bytes.
pub record IsLawfulEncoderRule (e : EncoderRule) : Type 0 where
  pub designates : (c : ℕ) → e.has (e.designated c) c ≡ true
  pub set_after_none : (s : CharacterSet) → e.set_after s [] ≡ s
  pub set_after_more : (s : CharacterSet) (t : List ℕ) (c : ℕ)
      → e.set_after s (t ++ c ∷ []) ≡ set_for e (e.set_after s t) c
  pub references : (c : ℕ) → IsReferenceCharacter c → e.bytes c ≡ Some (c ∷ [])
  pub one_set : (s : CharacterSet) (c : ℕ) → IsReferenceCharacter c → e.has s c ≡ e.has s 0x26
  pub few : (c : ℕ) → AreAtMostFour (e.bytes c)
