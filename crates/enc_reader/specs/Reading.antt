-- Reading text from a source through a buffer (Encoding Standard 6, "decode", a chunk at a time).
use Rattle.std.specs.Prelude.{◌≡◌, ℕ, ◌+◌, ◌*◌, ◌-◌, ◌^◌, ◌<◌, ◌≤◌, ◌⊎◌, min, Bool, true, false, ◌||◌, List, [], ◌∷◌}
use Rattle.std.specs.Prelude.{◌++◌, length, Option, if◌then◌else◌}
use Rattle.std.specs.Char.{encode_utf8}
use Rattle.std.specs.Io.KnownBytes.{IsAtEnd, Consumes}
use Rattle.enc_utf8.specs.Text.{AreScalars, units_of_text}
use Rattle.enc_decoder.specs.Sequence.{Sequence, sequence_text, any_malformed}
use Rattle.enc_decoder.specs.Remainder.{AreDetermined}
use Rattle.enc_stream.specs.declared.bom.BomHandling.{BomHandling}
use Rattle.enc_stream.specs.declared.bom.BomHandling.TheVariants.{Sniff}
use Rattle.enc_stream.specs.declared.encoding.Encoding.{Encoding}
use Rattle.enc_stream.specs.Bom.{find_mark, encoding_of_mark_or}
use Rattle.enc_stream.specs.Decoding.{DecoderState, has_finished, fresh_decoder, remaining_sequences}
use Rattle.enc_reader.specs.Source.{IsExhausted}

-- The state of a reader between two reads: its decoder, the bytes given by the source and not
-- decoded yet, and whether the source is at its end.
pub record ReaderState : Type 0 where
  pub decoder : DecoderState
  pub unread : List ℕ
  pub ended : Bool

-- a reader that has read nothing
abbrev pub fresh_reader : BomHandling → Encoding → ReaderState
fresh_reader handling e =
    record { decoder = fresh_decoder handling e; unread = []; ended = false }

-- a reader that looks for all three byte order marks, and has read nothing
abbrev pub sniffing_reader : Encoding → ReaderState
sniffing_reader e = fresh_reader Sniff e

-- The sequences that a reader owes: those still to come if the source still gives exactly the bytes
-- z. Their text is still to be handed out.
abbrev pub owed_sequences : ReaderState → List ℕ → List Sequence
owed_sequences s z = remaining_sequences s.decoder (s.unread ++ z)

-- These sequences come next: the bytes pending and unread determine them, whatever the source still
-- gives. At its end it gives nothing.
abbrev pub AreNext : ReaderState → List Sequence → Type 0
AreNext s ss = AreDetermined s.ended (remaining_sequences s.decoder) s.unread ss

-- no sequence is determined
abbrev pub NoneDetermined : ReaderState → Type 0
NoneDetermined s = (next : Sequence) → AreNext s (next ∷ []) → ⊥

-- No text is determined: at most sequences without one, as escape sequences and byte order marks.
abbrev pub NoTextDetermined : ReaderState → Type 0
NoTextDetermined s = (ss : List Sequence) → AreNext s ss → sequence_text ss ≡ []

-- Text of `written` bytes fills the room as far as whole characters do: what is determined next
-- does not fit.
abbrev pub FillsRoom : ℕ → ℕ → ReaderState → Type 0
FillsRoom room written s = (next : Sequence) → AreNext s (next ∷ [])
    → room < written + length (units_of_text encode_utf8 next.text)

-- The encoding of these sequences: that of the byte order mark that they begin with, if one may
-- come, or else the decoder's.
abbrev pub owed_encoding : ReaderState → List ℕ → Encoding
owed_encoding s z = encoding_of_mark_or
    (find_mark s.decoder.marks (s.decoder.pending ++ (s.unread ++ z))) s.decoder.encoding

-- The distance of a reader from the end: two for each undecoded byte, one for each pending byte,
-- and one for the end.
abbrev pub distance_to_end : ReaderState → ℕ
distance_to_end s = if has_finished s.decoder then 0 else 1
    + (2 * length s.unread + length s.decoder.pending)

-- A part of a read, in which the source gives `bytes`, and the text `wrote` is handed out.
pub record ReadsOwed (remaining_before remaining_after : Option (List ℕ)) (old new : ReaderState)
    (bytes wrote : List ℕ) (malformed : Bool) : Type 0 where
  pub given : Consumes remaining_before remaining_after bytes
  -- After its end the source gives nothing.
  pub none_after : old.ended ≡ true → (bytes ≡ []) × (new.ended ≡ true)
  -- The sequences owed before are those done and those owed now, whatever the source still gives.
  pub done : List Sequence
  pub residual : (z : List ℕ) → (new.ended ≡ true → z ≡ [])
      → owed_sequences old (bytes ++ z) ≡ done ++ owed_sequences new z
  pub encoding : (z : List ℕ) → (new.ended ≡ true → z ≡ [])
      → owed_encoding new z ≡ owed_encoding old (bytes ++ z)
  -- The text handed out is that of the sequences done, in whole characters.
  pub scalars : AreScalars (sequence_text done)
  pub text : wrote ≡ units_of_text encode_utf8 (sequence_text done)
  pub flag : malformed ≡ any_malformed done
  -- If it is not empty, the reader comes nearer to the end.
  pub nearer : distance_to_end new + min 1 (length wrote) ≤ distance_to_end old + 2 * length bytes

-- A read that returns `Ok`. The reader remembers whether U+FFFD was handed out for a malformed
-- sequence. After its end the source has no more bytes. The source is read only if no text is
-- determined.
pub record HandsOut (remaining_before remaining_after : Option (List ℕ)) (old new : ReaderState)
    (wrote : List ℕ) (had_before had_after : Bool) : Type 0 where
  pub bytes : List ℕ
  pub malformed : Bool
  pub reads : ReadsOwed remaining_before remaining_after old new bytes wrote malformed
  pub flag : had_after ≡ (had_before || malformed)
  pub exhausted : new.ended ≡ true → IsExhausted remaining_after
  pub needed : (bytes ≡ []) ⊎ NoTextDetermined old

-- The end: the source is at its end, and nothing is owed.
pub record IsReaderAtEnd (remaining : Option (List ℕ)) (s : ReaderState) : Type 0 where
  pub seen : s.ended ≡ true
  pub exhausted : IsAtEnd remaining
  pub finished : has_finished s.decoder ≡ true
  pub none_owed : owed_sequences s [] ≡ []

-- A read that fails: it hands out nothing, has seen no end, and leaves nothing that is determined.
-- The source, which had not failed before, failed in this read, or gave at least 2^64 - 1 bytes.
pub record FailsToRead (remaining_before remaining_after : Option (List ℕ))
    (failed_before failed_after : Bool) (old new : ReaderState) : Type 0 where
  pub bytes : List ℕ
  pub reads : ReadsOwed remaining_before remaining_after old new bytes [] false
  pub none_determined : NoneDetermined new
  pub not_ended : new.ended ≡ false
  pub not_before : failed_before ≡ false
  pub why : (failed_after ≡ true) ⊎ (2 ^ 64 - 1 ≤ length bytes)
