-- The law of an encoder that takes one character at a time.
use Rattle.std.specs.Prelude.{◌≡◌, ◌≢◌, ℕ, Bool, true, false, Option, Some, None, List, [], ◌∷◌, take, drop}
use Rattle.enc_input.specs.declared.bytes.Bytes.{Bytes}
use Rattle.enc_input.specs.Bytes.{byte_list}
use Rattle.enc_encoder.specs.declared.transition.Transition.{Transition}
use Rattle.enc_encoder.specs.declared.character_set.CharacterSet.TheVariants.{Ascii}
use Rattle.enc_encoder.specs.EncoderRule.{RawEncoderState, is_escape_due}
use Rattle.enc_encoder.specs.Steps.{Step, steps_from_state}

-- the characters at the front that a step reads, and those left
abbrev pub read_chars : Bool → List ℕ → List ℕ
read_chars true rest = take 1 rest
read_chars false rest = []

abbrev pub unread_chars : Bool → List ℕ → List ℕ
unread_chars true rest = drop 1 rest
unread_chars false rest = rest

-- a step, if these characters are to come
abbrev pub step_of : {E : Type 0} → (E → RawEncoderState) → Transition E → List ℕ → Step
step_of state t rest =
    record {
      bytes = byte_list t.bytes;
      reads = read_chars t.reads rest;
      report = t.report;
      set = (state t.next).set;
    }

-- the step comes first, if these characters are to come, and the others come from the state after
-- it
pub record IsNextStep {E : Type 0} (state : E → RawEncoderState) (e : E) (last : Bool)
    (rest : List ℕ)
    (t : Transition E) : Type 0 where
  pub first : steps_from_state (state e) last rest ≡ step_of state t rest
      ∷ steps_from_state (state t.next) last (unread_chars t.reads rest)
  pub same : (state t.next).rule ≡ (state e).rule
  pub some : t.reads ≡ true → rest ≢ []
  pub reports : (c : ℕ) → t.report ≡ Some c → (t.reads ≡ true) × (byte_list t.bytes ≡ [])

-- the first step for a character
abbrev pub HandlesCharacter : {E : Type 0} → (E → RawEncoderState) → E → ℕ → Transition E → Type 0
HandlesCharacter state e c t = (last : Bool) (z : List ℕ) → IsNextStep state e last (c ∷ z) t

-- the report of a character without bytes
abbrev pub report_unless_mapped : ℕ → Option Bytes → Option ℕ
report_unless_mapped c None = Some c
report_unless_mapped c (Some b) = None

-- the bytes found, or none
abbrev pub bytes_or_empty : Option Bytes → List ℕ
bytes_or_empty None = []
bytes_or_empty (Some b) = byte_list b

-- the bytes found are those of the character
abbrev pub AreBytesOf : Option (List ℕ) → Option Bytes → Type 0
AreBytesOf wanted None = wanted ≡ None
AreBytesOf wanted (Some b) = wanted ≡ Some (byte_list b)

-- the step of a character with these bytes
abbrev pub char_transition : {E : Type 0} → Bytes → E → ℕ → Option Bytes → Transition E
char_transition b e reported found =
    record { bytes = b; reads = true; report = report_unless_mapped reported found; next = e }

-- the step of an escape sequence
abbrev pub escape_transition : {E : Type 0} → Bytes → E → Transition E
escape_transition b next = record { bytes = b; reads = false; report = None; next = next }

-- the designated character set has the character, or lacks it and the one designated next has it
abbrev pub IsEscapeBefore : {E : Type 0} → (E → RawEncoderState) → E → ℕ → Option E → Type 0
IsEscapeBefore state e c None = (state e).rule.has (state e).set c ≡ true
IsEscapeBefore state e c (Some n) =
    ((state e).rule.has (state e).set c ≡ false)
    × ((state e).rule.has ((state e).rule.designated c) c ≡ true)
    × (state n ≡ record (state e) { set = (state e).rule.designated c })

-- ASCII is designated, or else is designated next
abbrev pub IsEscapeAtEnd : {E : Type 0} → (E → RawEncoderState) → E → Option E → Type 0
IsEscapeAtEnd state e None = (state e).set ≡ Ascii
IsEscapeAtEnd state e (Some n) = (is_escape_due (state e).set ≡ true)
    × (state n ≡ record (state e) { set = Ascii })

-- the step at the end of the text
abbrev pub IsStepAtEnd : {E : Type 0} → (E → RawEncoderState) → E → Option (Transition E) → Type 0
IsStepAtEnd state e None = (state e).set ≡ Ascii
IsStepAtEnd state e (Some t) = IsNextStep state e true [] t

-- the next step of a call
abbrev pub IsNextStepOfCall : {E : Type 0} → (E → RawEncoderState) → E → List ℕ → Bool
    → Option (Transition E) → Type 0
IsNextStepOfCall state e rest last None = (rest ≡ []) × (last ≡ true → (state e).set ≡ Ascii)
IsNextStepOfCall state e rest last (Some t) = IsNextStep state e last rest t
