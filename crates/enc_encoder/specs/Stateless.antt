-- Encodings without escape sequences, in which each character is written by itself.
use Rattle.std.specs.Prelude.{◌≡◌, ℕ, ◌*◌, ◌<◌, ◌≤◌, true, nat_lt, Option, Some, None, List, [], ◌∷◌, length}
use Rattle.std.specs.Prelude.{if◌then◌else◌}
use Rattle.std.specs.Char.{encode_utf8}
use Rattle.std.specs.Char.Escape.{encode_utf16}
use Rattle.enc_encoder.specs.declared.byte_lengths.ByteLengths.{ByteLengths}
use Rattle.enc_encoder.specs.declared.character_set.CharacterSet.TheVariants.{Ascii}
use Rattle.enc_encoder.specs.EncoderRule.{EncoderRule, RawEncoderState, AreAtMostFour}
use Rattle.enc_encoder.specs.Text.{list_or_empty}
use Rattle.enc_encoder.specs.Lengths.{max_bytes_per_utf_8_unit, max_bytes_per_utf_16_unit}

-- the rule with these bytes for each character
abbrev pub stateless_rule : (ℕ → Option (List ℕ)) → EncoderRule
stateless_rule bytes =
    record {
      bytes = bytes;
      reported = λ c. c;
      has = λ s c. true;
      designated = λ c. Ascii;
      set_after = λ s t. s;
    }

-- the state of such an encoder, which never changes
abbrev pub stateless_state : (ℕ → Option (List ℕ)) → RawEncoderState
stateless_state bytes = record { rule = stateless_rule bytes; set = Ascii }

-- ASCII is written as itself
abbrev pub WritesAscii : (ℕ → Option (List ℕ)) → Type 0
WritesAscii bytes = (c : ℕ) → c < 0x80 → bytes c ≡ Some (c ∷ [])

-- no character has more than four bytes
pub record WritesAtMostFour (bytes : ℕ → Option (List ℕ)) : Type 0 where
  pub few : (c : ℕ) → AreAtMostFour (bytes c)

-- no character has more bytes than the formulas have for its code units
pub record KeepsLengths (lengths : ByteLengths) (bytes : ℕ → Option (List ℕ)) : Type 0 where
  pub by_utf_8 : (c : ℕ)
      → length (list_or_empty (bytes c)) ≤ max_bytes_per_utf_8_unit lengths * length (encode_utf8 c)
  pub by_utf_16 : (c : ℕ)
      → length (list_or_empty (bytes c))
      ≤ max_bytes_per_utf_16_unit lengths * length (encode_utf16 c)

-- the law of a repertoire, which each encoding without escape sequences keeps
pub record IsLawfulRepertoire (formulas : ByteLengths) (bytes : ℕ → Option (List ℕ)) : Type 0 where
  pub ascii : WritesAscii bytes
  pub few : WritesAtMostFour bytes
  pub lengths : KeepsLengths formulas bytes

-- ASCII as itself, and all other characters by `others`
abbrev pub with_ascii : (ℕ → Option (List ℕ)) → ℕ → Option (List ℕ)
with_ascii others c = if nat_lt c 0x80 then Some (c ∷ []) else others c

-- the bytes of a pointer, if there is one
abbrev pub bytes_of_pointer : (ℕ → List ℕ) → Option ℕ → Option (List ℕ)
bytes_of_pointer bytes None = None
bytes_of_pointer bytes (Some p) = Some (bytes p)
