-- Whole sequences that a codec takes at once.
use Rattle.std.specs.Prelude.{◌≡◌, ℕ, ◌+◌, ◌<◌, ◌≤◌, false, List, [], ◌∷◌, ◌++◌, length, take, drop}
use Rattle.enc_output.specs.Output.{Output, with_appended}
use Rattle.enc_utf8.specs.Text.{AreScalars, units_of_text}
use Rattle.enc_decoder.specs.Sequence.{Sequence, sequence_bytes, sequence_text, any_malformed, set_after}
use Rattle.enc_decoder.specs.declared.byte_codec.Kind.{Kind}
use Rattle.enc_decoder.specs.declared.byte_codec.Kind.TheVariants.{Valid}
use Rattle.enc_decoder.specs.Segmentation.{Rule, sequences_of}
use Rattle.enc_decoder.specs.CodecState.{CodecState, remainder_of}
use Rattle.enc_decoder.specs.CodecLaw.{MayFollow}

-- These bytes are a sequence of this kind if y follows them, and its text is one character.
abbrev pub IsSequenceBefore : List ℕ → Kind → Rule → ℕ → List ℕ → ℕ → Type 0
IsSequenceBefore y kind rule set bytes c =
    sequences_of rule set (bytes ++ y)
    ≡ record { bytes = bytes; text = c ∷ []; kind = kind; set = set } ∷ sequences_of rule set y

-- These bytes are a sequence of this kind whatever follows them, and its text is one character.
abbrev pub IsWholeSequence : Kind → Rule → ℕ → List ℕ → ℕ → Type 0
IsWholeSequence kind rule set bytes c = (y : List ℕ) → IsSequenceBefore y kind rule set bytes c

-- These bytes are a character, whatever follows them.
abbrev pub IsWholeChar : Rule → ℕ → List ℕ → ℕ → Type 0
IsWholeChar rule set bytes c = IsWholeSequence Valid rule set bytes c

-- These bytes are a character, or malformed with U+FFFD for it, whatever follows them.
abbrev pub IsReplacedChar : Rule → ℕ → List ℕ → ℕ → Type 0
IsReplacedChar rule set bytes c = (kind : Kind) × IsWholeSequence kind rule set bytes c

-- The n bytes of `src` from `at` on are a character, or malformed with U+FFFD for it. They
-- determine that, or the byte after them does: in UTF-8, C3 is malformed if 41 follows it.
pub record IsReplacedCharAt (rule : Rule) (set : ℕ) (src : List ℕ) (at n c : ℕ) : Type 0 where
  pub kind : Kind
  pub first : (y : List ℕ) → MayFollow src (at + n) y
      → IsSequenceBefore y kind rule set (take n (drop at src)) c

-- Whole sequences: their text is put out, and the codec continues after them. Their bytes determine
-- them, or the byte after those does. While a byte is pending, there are none.
pub record TakesSequences (units_of : ℕ → List ℕ) (old new : CodecState) (src : List ℕ) (read : ℕ)
    (before after : Output) : Type 0 where
  pub taken : List Sequence
  pub within : read ≤ length src
  pub bytes : sequence_bytes taken ≡ take read src
  pub first : (y : List ℕ) → MayFollow src read y
      → (remainder_of old).sequences (take read src ++ y) ≡ taken ++ (remainder_of new).sequences y
  pub next_state : new ≡ record old { set = set_after old.set taken }
  pub scalars : AreScalars (sequence_text taken)
  pub fits : length (units_of_text units_of (sequence_text taken)) ≤ before.room
  pub written : after ≡ with_appended before (units_of_text units_of (sequence_text taken))
  pub none_pending : 0 < read → old.pending ≡ []
  pub none_taken : read ≡ 0 → taken ≡ []

-- the same, and none of them is malformed
pub record TakesRun {C : Type 0} (units_of : ℕ → List ℕ) (state : C → CodecState) (c n : C)
    (src : List ℕ) (read : ℕ) (before after : Output) : Type 0 where
  pub run : TakesSequences units_of (state c) (state n) src read before after
  pub none_malformed : any_malformed run.taken ≡ false

-- Whole sequences that end the input: if nothing follows `src`, the pending bytes and those of
-- `src` are these sequences. They have no text, none of them is malformed, and the codec continues
-- after them.
pub record SkipsEnd (old new : CodecState) (src : List ℕ) : Type 0 where
  pub taken : List Sequence
  pub all : (remainder_of old).sequences src ≡ taken
  pub no_text : sequence_text taken ≡ []
  pub none_malformed : any_malformed taken ≡ false
  pub next_state : new ≡ record old { set = set_after old.set taken; pending = [] }
