-- Calls of an encoder, by error mode, and their treatment of unmappable characters (Encoding
-- Standard 4.1, "process an item", error modes "fatal" and "html").
use Rattle.std.specs.Prelude.{◌≡◌, ℕ, ◌+◌, ◌-◌, ◌<◌, ◌≤◌, ◌⊎◌, Bool, true, false, not, ◌&&◌, Option, Some, None}
use Rattle.std.specs.Prelude.{is_some, List, [], ◌∷◌, ◌++◌, length, take, drop}
use Rattle.enc_utf8.specs.Text.{units_of_text}
use Rattle.enc_input.specs.declared.encoder_result.EncoderResult.{EncoderResult}
use Rattle.enc_input.specs.declared.encoder_result.EncoderResult.TheVariants.{InputEmpty, OutputFull, Unmappable}
use Rattle.enc_encoder.specs.declared.error_mode.ErrorMode.{ErrorMode}
use Rattle.enc_encoder.specs.declared.error_mode.ErrorMode.TheVariants as mode
use Rattle.enc_encoder.specs.EncoderRule.{EncoderRule, RawEncoderState, is_escape_due}
use Rattle.enc_encoder.specs.Text.{KeepsText}
use Rattle.enc_encoder.specs.Steps.{Step, steps_from_state, step_chars, step_bytes, bytes_with_references, any_reported}
use Rattle.enc_encoder.specs.Steps.{set_after_steps, reference_for_report}
use Rattle.enc_encoder.specs.Writes.{Place}
use Rattle.enc_encoder.specs.Call.{EncoderStops}

-- The error mode of a call: stop at an unmappable character and report it, or write a reference.
-- For references a number of bytes at the end of the output is kept free.
pub data EncodeErrorMode : Type 0 where
  Fatal : EncodeErrorMode
  Html : ℕ → EncodeErrorMode

-- the error mode of a call, by that of the code: the longest reference has 10 bytes
abbrev pub mode_of : ErrorMode → EncodeErrorMode
mode_of mode.Fatal = Fatal
mode_of mode.Html = Html 10
mode_of mode.HtmlOfMappable = Html 0

-- the number of bytes that are kept free at the end of the output
abbrev pub kept_in : EncodeErrorMode → ℕ
kept_in Fatal = 0
kept_in (Html kept) = kept

-- whether references are written
abbrev pub is_html_mode : EncodeErrorMode → Bool
is_html_mode Fatal = false
is_html_mode (Html kept) = true

-- no character is unmappable
abbrev pub MapsEveryCharacter : EncoderRule → Type 0
MapsEveryCharacter e = (c : ℕ) → is_some (e.bytes c) ≡ true

-- the bytes that a call writes in these steps
abbrev pub bytes_in_mode : EncodeErrorMode → List Step → List ℕ
bytes_in_mode Fatal done = step_bytes done
bytes_in_mode (Html kept) done = bytes_with_references done

-- all characters are read, and with `last` no escape sequence is due
abbrev pub is_nothing_left : RawEncoderState → List ℕ → Bool → Bool
is_nothing_left v [] last = not (last && is_escape_due v.set)
is_nothing_left v (c ∷ t) last = false

-- After n bytes, the bytes of a step end at the limit or before it. A reference ends before it,
-- unless it is the last step.
abbrev pub StepFits : ℕ → ℕ → Option ℕ → ℕ → List Step → Type 0
StepFits limit n None len others = n + len ≤ limit
StepFits limit n (Some c) len [] = n + len ≤ limit
StepFits limit n (Some c) len (p ∷ others) =
    n + len + length (reference_for_report (Some c)) < limit

-- each of these steps fits, after n bytes
abbrev pub StepsFit : ℕ → ℕ → List Step → Type 0
StepsFit limit n [] = Unit {0}
StepsFit limit n (p ∷ others) =
    StepFits limit n p.report (length p.bytes) others
    × StepsFit limit (n + length p.bytes + length (reference_for_report p.report)) others

-- the steps of a call fit into its room; with references, all except a last reference end before
-- the part kept free
abbrev pub StepsFitInMode : EncodeErrorMode → ℕ → List Step → Type 0
StepsFitInMode Fatal room done = length (step_bytes done) ≤ room
StepsFitInMode (Html kept) room done = StepsFit (room - kept) 0 done × (room < kept → done ≡ [])

-- whether the last step is a report
abbrev pub ends_in_report : List Step → Bool
ends_in_report [] = false
ends_in_report (p ∷ []) = is_some p.report
ends_in_report (p ∷ q ∷ others) = ends_in_report (q ∷ others)

-- the bytes of the next step do not fit before the part kept free
pub record AtNextStep (kept : ℕ) (new : RawEncoderState) (rest : List ℕ) (last : Bool) (room : ℕ)
    (done : List Step) : Type 0 where
  pub next : Step
  pub others : List Step
  pub comes : steps_from_state new last rest ≡ next ∷ others
  pub not_report : next.report ≡ None
  pub full : room - kept < length (bytes_with_references done) + length next.bytes

-- a reference has reached the part kept free
pub record AtReference (kept : ℕ) (new : RawEncoderState) (rest : List ℕ) (last : Bool) (room : ℕ)
    (done : List Step) : Type 0 where
  pub reference : ends_in_report done ≡ true
  pub full : room - kept ≤ length (bytes_with_references done)
  pub left : is_nothing_left new rest last ≡ false

-- the output is shorter than the part kept free
pub record AtRoomBelowKept (kept : ℕ) (new : RawEncoderState) (rest : List ℕ) (last : Bool)
    (room : ℕ) : Type 0 where
  pub small : room < kept
  pub left : is_nothing_left new rest last ≡ false

-- why the output of a call with references is full
abbrev pub IsFull : ℕ → RawEncoderState → List ℕ → Bool → ℕ → List Step → Type 0
IsFull kept new rest last room done =
    AtNextStep kept new rest last room done
    ⊎ (AtReference kept new rest last room done ⊎ AtRoomBelowKept kept new rest last room)

-- why a call with references stopped: nothing is left, or the output is full
abbrev pub StopsInHtmlMode : ℕ → RawEncoderState → List ℕ → Bool → ℕ → List Step → EncoderResult
    → Type 0
StopsInHtmlMode kept new rest last room done InputEmpty = is_nothing_left new rest last ≡ true
StopsInHtmlMode kept new rest last room done OutputFull = IsFull kept new rest last room done
StopsInHtmlMode kept new rest last room done (Unmappable c) = ⊥

-- why a call stopped
abbrev pub StopsInMode : EncodeErrorMode → RawEncoderState → List ℕ → Bool → ℕ → List Step
    → EncoderResult → Type 0
StopsInMode Fatal new rest last room done result = EncoderStops new rest last room done result
StopsInMode (Html kept) new rest last room done result =
    StopsInHtmlMode kept new rest last room done result

-- What a call is given: its characters, whether nothing follows them, the error mode and the room
-- of the output. What it does: why it stopped, the number of code units read, the bytes written,
-- and whether a reference is among them.
pub record CallInMode : Type 0 where
  pub src : List ℕ
  pub last : Bool
  pub mode : EncodeErrorMode
  pub room : ℕ
  pub result : EncoderResult
  pub read : ℕ
  pub wrote : List ℕ
  pub replaced : Bool

-- A call of an encoder that leaves the characters `rest` unread. It does the steps that come first,
-- in order. Whatever follows, the bytes of the whole text are those that it wrote, a reference to
-- the character reported, and the bytes of the text left.
pub record IsCallInMode (units_of : ℕ → List ℕ) (old new : RawEncoderState) (rest : List ℕ)
    (c : CallInMode) : Type 0 where
  pub done : List Step
  pub reads : c.src ≡ step_chars done ++ rest
  pub remaining : steps_from_state old c.last c.src ≡ done ++ steps_from_state new c.last rest
  pub rule : new.rule ≡ old.rule
  pub set : new.set ≡ set_after_steps old.set done
  pub bytes : c.wrote ≡ bytes_in_mode c.mode done
  pub fits : StepsFitInMode c.mode c.room done
  pub flag : c.replaced ≡ (is_html_mode c.mode && any_reported done)
  pub stops : StopsInMode c.mode new rest c.last c.room done c.result
  pub units : c.read ≡ length (units_of_text units_of (step_chars done))
  pub text : KeepsText old new c.src rest c.last c.result c.wrote

-- A call in an error mode that writes to the start of a slice. Its other bytes are unchanged.
pub record CallOnto (units_of : ℕ → List ℕ) (mode : EncodeErrorMode) (last : Bool)
    (from to : Place) (result : EncoderResult) (read : ℕ) (replaced : Bool) : Type 0 where
  pub within : to.written ≤ length from.slice
  pub rest_stays : drop to.written to.slice ≡ drop to.written from.slice
  pub call : IsCallInMode units_of from.state to.state to.rest (record {
    src = from.rest;
    last = last;
    mode = mode;
    room = length from.slice;
    result = result;
    read = read;
    wrote = take to.written to.slice;
    replaced = replaced;
  })
