-- The number of bytes that a reader's source has given, which the reader counts up to 2^64 - 1.
use Rattle.std.specs.Prelude.{◌≡◌, ℕ, ◌+◌, ◌-◌, ◌^◌, ◌≤◌, min, Bool, true, List, [], ◌++◌, length, Option}
use Rattle.enc_stream.specs.Faults.{faults_from}
use Rattle.enc_decoder.specs.Sequence.{Sequence, sequence_bytes}
use Rattle.enc_reader.specs.Reading.{ReaderState, HandsOut, owed_sequences}
use Rattle.enc_reader.specs.Turn.{PullsChunk, FillsBuffer}
use Rattle.enc_reader.specs.Items.{Item, items_from}

-- The source has given `given` bytes, those unread and those pending among them.
pub record HasGiven (count : ℕ) (s : ReaderState) (given : ℕ) : Type 0 where
  pub counted : count ≡ min given (2 ^ 64 - 1)
  pub among : length s.unread + length s.decoder.pending ≤ given

-- What sequences have, by the offset of the first of them.
abbrev pub Finds : Type 0 → Type 0
Finds A = ℕ → List Sequence → List A

-- What the sequences have that a reader owes, if its source has given `given` bytes and still gives
-- exactly z. They are the last ones of the whole input.
abbrev pub owed_by : {A : Type 0} → Finds A → ℕ → ReaderState → List ℕ → List A
owed_by found given s z = found (given + length z - length (sequence_bytes (owed_sequences s z)))
    (owed_sequences s z)

-- The source gives `bytes`. Then what is owed before is `passed` and what is owed now, whatever it
-- still gives.
abbrev pub Passes : {A : Type 0} → Finds A → ℕ → ReaderState → ReaderState → List ℕ → List A
    → Type 0
Passes found given old new bytes passed = (z : List ℕ) → (new.ended ≡ true → z ≡ [])
    → owed_by found given old (bytes ++ z) ≡ passed ++ owed_by found (given + length bytes) new z

-- the offset and length of each malformed sequence
abbrev pub owed_faults : ℕ → ReaderState → List ℕ → List (ℕ × ℕ)
owed_faults = owed_by faults_from

abbrev pub PassesFaults : ℕ → ReaderState → ReaderState → List ℕ → List (ℕ × ℕ) → Type 0
PassesFaults = Passes faults_from

-- the characters and the malformed sequences
abbrev pub owed_items : ℕ → ReaderState → List ℕ → List Item
owed_items = owed_by items_from

abbrev pub PassesItems : ℕ → ReaderState → ReaderState → List ℕ → List Item → Type 0
PassesItems = Passes items_from

-- The source gives `bytes` in a step, and they are counted. Those unread and those pending are
-- among the bytes given.
pub record CountsBytes (old new : ReaderState) (count_before count_after : ℕ) (bytes : List ℕ)
    : Type 0 where
  pub counted : (given : ℕ) → count_before ≡ min given (2 ^ 64 - 1)
      → count_after ≡ min (given + length bytes) (2 ^ 64 - 1)
  pub among : length new.unread + length new.decoder.pending
      ≤ length old.unread + length old.decoder.pending + length bytes

-- A chunk is pulled, and its bytes are counted.
pub record PullsCounted (remaining_before remaining_after : Option (List ℕ))
    (old new : ReaderState) (count_before count_after : ℕ) : Type 0 where
  pub pulls : PullsChunk remaining_before remaining_after old new
  pub counts : CountsBytes old new count_before count_after pulls.bytes

-- A chunk is pulled if the buffer lacks bytes, and its bytes are counted.
pub record FillsCounted (remaining_before remaining_after : Option (List ℕ))
    (old new : ReaderState) (count_before count_after : ℕ) : Type 0 where
  pub fills : FillsBuffer remaining_before remaining_after old new
  pub counts : CountsBytes old new count_before count_after fills.bytes

-- A read that returns `Ok`, with the count of the bytes that the source gives in it. It replaces
-- the first of the malformed sequences owed.
pub record HandsOutCounted (remaining_before remaining_after : Option (List ℕ))
    (old new : ReaderState) (count_before count_after : ℕ) (wrote : List ℕ)
    (had_before had_after : Bool) : Type 0 where
  pub hands_out : HandsOut remaining_before remaining_after old new wrote had_before had_after
  pub counts : (given : ℕ) → HasGiven count_before old given
      → HasGiven count_after new (given + length hands_out.bytes)
  pub replaced : (given : ℕ) → HasGiven count_before old given
      → (z : List ℕ) → (new.ended ≡ true → z ≡ []) → (faults : List (ℕ × ℕ))
      × (owed_faults given old (hands_out.bytes ++ z)
      ≡ faults ++ owed_faults (given + length hands_out.bytes) new z)
