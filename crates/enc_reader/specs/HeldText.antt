-- Text that is taken byte by byte or line by line, from a reader whose text is held in between.
use Rattle.std.specs.Prelude.{◌≡◌, ◌≢◌, ℕ, ◌-◌, ◌^◌, ◌<◌, ◌≤◌, ◌⊎◌, Bool, true, false, ◌||◌, List, [], ◌++◌}
use Rattle.std.specs.Prelude.{length, take, drop, slice_index, All, Option, option_map}
use Rattle.std.specs.Prelude.{Ok, Err, IfOk, OnOk}
use denote.Ref.{Bor}
use Rattle.std.specs.declared.result.Result.{Result}
use Rattle.std.specs.Str.{IsUtf8}
use Rattle.std.specs.Char.{encode_utf8}
use Rattle.std.specs.Io.{StopsAt}
use Rattle.enc_utf8.specs.Text.{units_of_text}
use Rattle.enc_decoder.specs.Sequence.{sequence_text}
use Rattle.enc_reader.specs.declared.decoded_text.DecodedText.{DecodedText}
use Rattle.std.specs.Io.KnownBytes.{Consumes}
use Rattle.enc_reader.specs.Reading.{ReaderState, ReadsOwed, IsReaderAtEnd, NoneDetermined, owed_sequences}
use Rattle.enc_reader.specs.Reader.{state_of, handed_text}

-- The state between two calls: that of the reader, the text that the reader has handed out and that
-- is not taken yet, and whether a sequence handed out was malformed.
pub record TextState : Type 0 where
  pub reader : ReaderState
  pub held : List ℕ
  pub had_errors : Bool

abbrev pub text_state_of : {T : Type 0} {S : _} → DecodedText T S → TextState
text_state_of t = record {
  reader = state_of t.reader;
  held = drop t.at (handed_text t.reader t.text.now t.handed);
  had_errors = t.reader.had_errors;
}

-- The text still to be taken, in UTF-8, if the source still gives exactly the bytes z.
abbrev pub owed_text : TextState → List ℕ → List ℕ
owed_text s z = s.held ++ units_of_text encode_utf8 (sequence_text (owed_sequences s.reader z))

-- the same by the bytes of the source, if it models them
abbrev pub remaining_text : Option (List ℕ) → TextState → Option (List ℕ)
remaining_text remaining s = option_map (owed_text s) remaining

-- The text `wrote` is taken: that which was held, and then that which the reader hands out, except
-- what is held now. Nothing is lost, and nothing comes twice. The reader remembers whether a
-- sequence was malformed.
pub record TakesText (remaining_before remaining_after : Option (List ℕ)) (old new : TextState)
    (wrote : List ℕ) : Type 0 where
  pub bytes : List ℕ
  pub text : List ℕ
  pub malformed : Bool
  pub reads : ReadsOwed remaining_before remaining_after old.reader new.reader bytes text malformed
  pub held : old.held ++ text ≡ wrote ++ new.held
  pub flag : new.had_errors ≡ (old.had_errors || malformed)

-- the bytes that a read has taken into a buffer
abbrev pub bytes_of_read : {E : Type 0} → Result ℕ E → List ℕ → List ℕ
bytes_of_read (Ok n) buf = take n buf
bytes_of_read (Err e) buf = []

-- The end: nothing is held, and the reader is at its end.
pub record IsTextAtEnd (remaining : Option (List ℕ)) (s : TextState) : Type 0 where
  pub none_held : s.held ≡ []
  pub reader : IsReaderAtEnd remaining s.reader

-- A text begins with a whole character.
pub record BeginsWithCharacter (text : List ℕ) : Type 0 where
  pub len : ℕ
  pub some : 0 < len
  pub within : len ≤ length text
  pub utf_8 : IsUtf8 (take len text)

-- the last byte of a text
pub record EndsWithByte (byte : ℕ) (text : List ℕ) : Type 0 where
  pub some : 0 < length text
  pub ends : slice_index text (length text - 1) ≡ byte

-- A line grows by text that is taken, which has a line feed at most at its end.
pub record AppendsText (remaining_before remaining_after : Option (List ℕ)) (old new : TextState)
    (line_before line_after : List ℕ) : Type 0 where
  pub wrote : List ℕ
  pub appended : line_after ≡ line_before ++ wrote
  pub takes : TakesText remaining_before remaining_after old new wrote
  pub stops : StopsAt wrote 10

-- The same up to a line feed or to the end if it `is_whole`, and otherwise without one.
pub record AppendsLine (remaining_before remaining_after : Option (List ℕ)) (old new : TextState)
    (line_before line_after : List ℕ) (is_whole : Bool) : Type 0 where
  pub wrote : List ℕ
  pub appended : line_after ≡ line_before ++ wrote
  pub takes : TakesText remaining_before remaining_after old new wrote
  pub stops : StopsAt wrote 10
  pub part : is_whole ≡ false → All (λ b. b ≢ 10) wrote
  pub whole : is_whole ≡ true → EndsWithByte 10 wrote ⊎ IsTextAtEnd remaining_after new

-- The source, which had not failed before, failed meanwhile, or gave at least 2^64 - 1 bytes. All
-- text that was determined has been taken.
pub record SourceFails (remaining_before remaining_after : Option (List ℕ))
    (failed_before failed_after : Bool) (new : TextState) : Type 0 where
  pub bytes : List ℕ
  pub given : Consumes remaining_before remaining_after bytes
  pub none_held : new.held ≡ []
  pub none_determined : NoneDetermined new.reader
  pub not_before : failed_before ≡ false
  pub why : (failed_after ≡ true) ⊎ (2 ^ 64 - 1 ≤ length bytes)

-- The text that is held is shown, after one read if none was held. Nothing is taken, and nothing is
-- lost. It is empty only at the end.
pub record FillsText {E : Type 0} (remaining_before remaining_after : Option (List ℕ))
    (old new : TextState) (result : Result (Bor (List ℕ)) E) : Type 0 where
  pub takes : TakesText remaining_before remaining_after old new []
  pub shown : IfOk result (λ text. text.now ≡ new.held)
  pub end : OnOk result (new.held ≡ [] → IsTextAtEnd remaining_after new)
