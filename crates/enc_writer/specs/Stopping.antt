-- Writing that fails: the text taken until then, and its bytes.
use Rattle.std.specs.Prelude.{◌≡◌, ℕ, Bool, true, List, [], ◌++◌, Option}
use Rattle.enc_writer.specs.Sink.{AppendsContents}
use Rattle.enc_writer.specs.EncodedText.{bytes_from_state}
use Rattle.enc_writer.specs.Writing.{WriterState, HasWrittenText, flag_after, owed_bytes}

-- A writer that was at `start` has failed while it wrote `text`, or with `last` the end. It has
-- taken a front of the text, and its sink some of the bytes of that front.
pub record HasStopped (taken_before taken_after : Option (List ℕ)) (start now : WriterState)
    (text : List ℕ) (last : Bool) : Type 0 where
  pub encoding : now.encoder.encoding ≡ start.encoder.encoding
  pub barred : now.encoder.barred ≡ start.encoder.barred
  -- the characters taken, and the others
  pub front : List ℕ
  pub rest : List ℕ
  pub reads : text ≡ front ++ rest
  -- No other character counts as unmappable.
  pub flag : now.had_unmappables ≡ flag_after start front
  -- the bytes that the sink has taken, and the bytes of the front that it has not
  pub pushed : List ℕ
  pub lost : List ℕ
  pub taken : AppendsContents taken_before taken_after pushed
  -- Whatever follows the text (if `last`, nothing), the bytes owed at the start are those pushed,
  -- those lost, and those of the other characters.
  pub owed : (z : List ℕ) → (last ≡ true → z ≡ []) → owed_bytes start (text ++ z)
      ≡ pushed ++ (lost ++ bytes_from_state now.encoder (rest ++ z))

-- A call fails while it writes `text`, or with `last` the end, after whatever was written before.
pub record StopsText (taken_before taken_after : Option (List ℕ)) (old new : WriterState)
    (text : List ℕ) (last : Bool) : Type 0 where
  pub alone : HasStopped taken_before taken_after old new text last
  pub after : (taken : Option (List ℕ)) (start : WriterState) (before : List ℕ)
      → HasWrittenText taken taken_before start old before
      → HasStopped taken taken_after start new (before ++ text) last
