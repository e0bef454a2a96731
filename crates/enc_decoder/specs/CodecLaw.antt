-- The law of a codec that takes one byte at a time (Encoding Standard 4.1, "handler").
use Rattle.std.specs.Prelude.{◌≡◌, ℕ, ◌<◌, ◌≤◌, Bool, true, false, Option, Some, None, List, [], ◌∷◌, ◌++◌, length}
use Rattle.std.specs.Prelude.{slice_index}
use Rattle.enc_decoder.specs.declared.byte_codec.Text.{Text}
use Rattle.enc_decoder.specs.declared.byte_codec.Text.TheVariants.{Nothing, One, Two}
use Rattle.enc_decoder.specs.declared.byte_codec.Kind.TheVariants.{Malformed}
use Rattle.enc_decoder.specs.declared.byte_codec.Emission.{Emission}
use Rattle.enc_decoder.specs.declared.byte_codec.HandlerResult.{HandlerResult}
use Rattle.enc_decoder.specs.declared.byte_codec.HandlerResult.TheVariants.{Continue, Emit}
use Rattle.enc_decoder.specs.declared.machine.NextEvent.{NextEvent}
use Rattle.enc_decoder.specs.declared.machine.NextEvent.TheVariants.{NeedsInput, HoldsByte, Emits}
use Rattle.enc_decoder.specs.Sequence.{is_malformed, is_repeated_escape}
use Rattle.enc_decoder.specs.Remainder.{IsUndetermined}
use Rattle.enc_decoder.specs.Call.{AreReportedLens}
use Rattle.enc_decoder.specs.CodecState.{CodecState, remainder_of}

-- the characters of a text
abbrev pub text_chars : Text → List ℕ
text_chars Nothing = []
text_chars (One a) = a ∷ []
text_chars (Two a b) = a ∷ b ∷ []

-- the byte, if it is read with the sequence
abbrev pub taken_bytes : Bool → ℕ → List ℕ
taken_bytes true b = b ∷ []
taken_bytes false b = []

-- The sequence comes first, whatever follows, and the next state continues with the rest.
pub record IsNextSequence {C : Type 0} (state : C → CodecState) (c : C)
    (may_follow : List ℕ → Type 0) (took : List ℕ) (s : Emission C) : Type 0 where
  pub bytes : List ℕ
  pub some : 0 < length bytes
  pub len : s.len ≡ length bytes
  pub parts : (state c).pending ++ took ≡ bytes ++ (state s.next).pending
  pub first : (y : List ℕ) → may_follow (took ++ y) → (remainder_of (state c)).sequences (took ++ y)
      ≡ record { bytes = bytes; text = text_chars s.text; kind = s.kind; set = (state s.next).set }
      ∷ (remainder_of (state s.next)).sequences y
  pub same_rule : (state s.next).rule ≡ (state c).rule
  pub replacement : is_malformed s.kind ≡ true → text_chars s.text ≡ 0xFFFD ∷ []
  pub bounds : is_malformed s.kind ≡ true
      → AreReportedLens s.kind s.len (length (state s.next).pending)
  -- a repeated escape is determined with its byte, and only after one are bytes pending then
  pub late : is_repeated_escape s.kind ≡ true → s.takes_byte ≡ true
  pub clean : s.takes_byte ≡ true → is_repeated_escape s.kind ≡ false → (state s.next).pending ≡ []

-- the bytes y begin with b
abbrev pub BeginsWithByte : ℕ → List ℕ → Type 0
BeginsWithByte b y = (z : List ℕ) × (y ≡ b ∷ z)

-- a byte is held and then no sequence is determined, or it determines a sequence
abbrev pub HandlesByte : {C : Type 0} → (C → CodecState) → C → ℕ → HandlerResult C → Type 0
HandlesByte state c b (Continue n) =
    (state n ≡ record (state c) { pending = (state c).pending ++ b ∷ [] })
    × IsUndetermined (remainder_of (state n)).sequences
HandlesByte state c b (Emit s) =
    IsNextSequence state c (BeginsWithByte b) (taken_bytes s.takes_byte b) s
    × (s.takes_byte ≡ true → IsUndetermined (remainder_of (state s.next)).sequences)

-- one malformed byte, with the same state after it
abbrev pub lone_fault : {C : Type 0} → C → Emission C
lone_fault c = record { text = One 0xFFFD; kind = Malformed; len = 1; takes_byte = true; next = c }

-- the sequence that the pending bytes determine by themselves; bytes are pending again if a
-- malformed sequence ended before them
abbrev pub IsNextOfPending : {C : Type 0} → (C → CodecState) → C → Option (Emission C) → Type 0
IsNextOfPending state c None = IsUndetermined (remainder_of (state c)).sequences
IsNextOfPending state c (Some s) = IsNextSequence state c (λ _. Unit {0}) [] s
    × (s.takes_byte ≡ false)

-- the sequence that the end of the input determines
abbrev pub IsNextAtEnd : {C : Type 0} → (C → CodecState) → C → Option (Emission C) → Type 0
IsNextAtEnd state c None = (state c).pending ≡ []
IsNextAtEnd state c (Some s) = IsNextSequence state c (λ y. y ≡ []) [] s × (s.takes_byte ≡ false)

-- the bytes that may follow the first `read` bytes of `src`: if it has a byte there, they begin
-- with that byte
abbrev pub MayFollow : List ℕ → ℕ → List ℕ → Type 0
MayFollow src read y = read < length src → BeginsWithByte (slice_index src read) y

-- the bytes that may follow those that a call has read so far
pub record MayFollowRead (src : List ℕ) (read : ℕ) (last : Bool) (y : List ℕ) : Type 0 where
  pub more : MayFollow src read y
  pub ended : length src ≤ read → last ≡ true → y ≡ []

-- the next event of a call
abbrev pub IsNextEvent : {C : Type 0} → (C → CodecState) → C → List ℕ → ℕ → Bool → NextEvent C
    → Type 0
IsNextEvent state c src read last NeedsInput =
    (length src ≤ read) × (last ≡ true → (state c).pending ≡ [])
    × IsUndetermined (remainder_of (state c)).sequences
IsNextEvent state c src read last (HoldsByte n) = (read < length src)
    × HandlesByte state c (slice_index src read) (Continue n)
IsNextEvent state c src read last (Emits s) =
    IsNextSequence state c (MayFollowRead src read last)
    (taken_bytes s.takes_byte (slice_index src read)) s
    × (s.takes_byte ≡ true → (read < length src) × IsUndetermined (remainder_of (state c)).sequences
    × IsUndetermined (remainder_of (state s.next)).sequences)
