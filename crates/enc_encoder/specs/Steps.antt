-- The steps of encoding a text: escape sequences, the bytes of characters, and reports of
-- unmappable characters.
use Rattle.std.specs.Prelude.{ℕ, Bool, false, ◌||◌, Option, Some, None, is_some, List, [], ◌∷◌, ◌++◌, if◌then◌else◌}
use Rattle.enc_encoder.specs.declared.character_set.CharacterSet.{CharacterSet}
use Rattle.enc_encoder.specs.declared.character_set.CharacterSet.TheVariants.{Ascii, Roman, Jis0208}
use Rattle.enc_encoder.specs.EncoderRule.{EncoderRule, RawEncoderState, set_for}
use Rattle.enc_encoder.specs.Text.{escape_sequence, reference}

-- a step: the bytes that it writes, the character that it reads (none for an escape sequence), the
-- character that it reports if that is unmappable, and the character set after it
pub record Step : Type 0 where
  pub bytes : List ℕ
  pub reads : List ℕ
  pub report : Option ℕ
  pub set : CharacterSet

-- the step of the escape sequence that designates a character set
abbrev pub escape_step : CharacterSet → Step
escape_step s = record { bytes = escape_sequence s; reads = []; report = None; set = s }

-- the step of a character, in a character set that has it, or its reference if it is unmappable
abbrev pub char_step : EncoderRule → CharacterSet → ℕ → Option (List ℕ) → Step
char_step e s c None = record { bytes = []; reads = c ∷ []; report = Some (e.reported c); set = s }
char_step e s c (Some b) = record { bytes = b; reads = c ∷ []; report = None; set = s }

-- the first character that is written for a character: itself, or that of its reference
abbrev pub first_written_char : ℕ → Option (List ℕ) → ℕ
first_written_char c None = 0x26
first_written_char c (Some b) = c

-- the escape sequence before a character, if the designated character set lacks it
abbrev pub escape_steps_before : EncoderRule → CharacterSet → ℕ → List Step
escape_steps_before e s c = if e.has s c then [] else escape_step (e.designated c) ∷ []

-- the escape sequence to ASCII at the end of a text, if another character set is designated
abbrev pub steps_at_end : CharacterSet → List Step
steps_at_end Ascii = []
steps_at_end Roman = escape_step Ascii ∷ []
steps_at_end Jis0208 = escape_step Ascii ∷ []

-- the steps of a text, and with `last` the one at its end
unfoldable pub steps_of : EncoderRule → Bool → CharacterSet → List ℕ → List Step
steps_of e last s [] = if last then steps_at_end s else []
steps_of e last s (c ∷ t) =
    let d = first_written_char c (e.bytes c) in
    escape_steps_before e s d
    ++ (char_step e (set_for e s d) c (e.bytes c) ∷ steps_of e last (set_for e s d) t)

-- the same from an encoder's state on
abbrev pub steps_from_state : RawEncoderState → Bool → List ℕ → List Step
steps_from_state v last t = steps_of v.rule last v.set t

-- the characters that steps read
abbrev pub step_chars : List Step → List ℕ
step_chars [] = []
step_chars (p ∷ ps) = p.reads ++ step_chars ps

-- the bytes that steps write
abbrev pub step_bytes : List Step → List ℕ
step_bytes [] = []
step_bytes (p ∷ ps) = p.bytes ++ step_bytes ps

-- whether one of them is a report
abbrev pub any_reported : List Step → Bool
any_reported [] = false
any_reported (p ∷ ps) = is_some p.report || any_reported ps

-- the character set designated after them
abbrev pub set_after_steps : CharacterSet → List Step → CharacterSet
set_after_steps s [] = s
set_after_steps s (p ∷ ps) = set_after_steps p.set ps

-- the reference for a report
abbrev pub reference_for_report : Option ℕ → List ℕ
reference_for_report None = []
reference_for_report (Some c) = reference c

-- the bytes that steps write, with a reference for each report
abbrev pub bytes_with_references : List Step → List ℕ
bytes_with_references [] = []
bytes_with_references (p ∷ ps) =
    (p.bytes ++ reference_for_report p.report) ++ bytes_with_references ps
