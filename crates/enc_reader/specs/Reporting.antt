-- Reads without replacement: text up to a malformed sequence, with the offset and the bytes of that
-- sequence in the whole input (Encoding Standard 4.1, error mode "fatal", which goes on after the
-- sequence).
use Rattle.std.specs.Prelude.{ℕ, ◌+◌, ◌-◌, ◌^◌, ◌<◌, ◌≤◌, Bool, true, false, List, [], ◌∷◌, ◌++◌, length, map}
use Rattle.std.specs.Prelude.{take, drop, chars, Option, Some, None}
use Rattle.std.specs.Char.{encode_utf8}
use Rattle.enc_output.specs.declared.decoder_result.DecoderResult.{DecoderResult}
use Rattle.enc_output.specs.declared.decoder_result.DecoderResult.TheVariants as result
use Rattle.enc_reader.specs.declared.decode_reader.reporting.ReadStop.{ReadStop}
use Rattle.enc_reader.specs.declared.decode_reader.reporting.ReadStop.TheVariants.{Text, Malformed}
use Rattle.enc_reader.specs.declared.decode_reader.reporting.MalformedLens.{MalformedLens}
use Rattle.enc_reader.specs.declared.malformed_sequence.MalformedSequence.{MalformedSequence}
use Rattle.enc_reader.specs.Items.{Item, character_item, malformed_item}
use Rattle.enc_reader.specs.Reading.{ReaderState, HandsOut}
use Rattle.enc_reader.specs.Counting.{HasGiven, PassesFaults, PassesItems}

-- the number of bytes of text written
abbrev pub written_of : ReadStop → ℕ
written_of (Text n) = n
written_of (Malformed n offset len) = n

-- the offset and length of the malformed sequence
abbrev pub faults_of : ReadStop → List (ℕ × ℕ)
faults_of (Text n) = []
faults_of (Malformed n offset len) = (offset, len) ∷ []

-- its replacement, U+FFFD in UTF-8
abbrev pub replacement_of : ReadStop → List ℕ
replacement_of (Text n) = []
replacement_of (Malformed n offset len) = encode_utf8 0xFFFD

-- A read without replacement that returns `Ok`. `wrote` has U+FFFD for the malformed sequence that
-- is reported. Its offset is exact while the source has given fewer than 2^64 bytes.
pub record ReportsFaults (remaining_before remaining_after : Option (List ℕ))
    (old new : ReaderState) (count_before count_after : ℕ) (wrote : List ℕ)
    (faults : List (ℕ × ℕ)) (had_before had_after : Bool) : Type 0 where
  pub hands_out : HandsOut remaining_before remaining_after old new wrote had_before had_after
  pub counts : (given : ℕ) → HasGiven count_before old given
      → HasGiven count_after new (given + length hands_out.bytes)
  pub reported : (given : ℕ) → HasGiven count_before old given
      → given + length hands_out.bytes < 2 ^ 64
      → PassesFaults given old new hands_out.bytes faults

-- the bytes of a malformed sequence
abbrev pub malformed_bytes : MalformedSequence → List ℕ
malformed_bytes m = take m.len m.bytes

-- U+FFFD in UTF-8 if a malformed sequence is reported
abbrev pub replacement_if : Option MalformedSequence → List ℕ
replacement_if None = []
replacement_if (Some m) = encode_utf8 0xFFFD

-- its offset and length
abbrev pub faults_if : Option MalformedSequence → List (ℕ × ℕ)
faults_if None = []
faults_if (Some m) = (m.offset, length (malformed_bytes m)) ∷ []

-- the item of a malformed sequence, if one is reported
abbrev pub items_if : Option MalformedSequence → List Item
items_if None = []
items_if (Some m) = malformed_item m.offset (malformed_bytes m) ∷ []

-- the items of a text in UTF-8, and of the malformed sequence that follows it, if there is one
abbrev pub part_items : List ℕ → Option MalformedSequence → List Item
part_items text malformed = map character_item (chars text) ++ items_if malformed

-- A read that returns a text in UTF-8 and the malformed sequence that follows it, if one does: they
-- are the next items of the input. The offset is exact while the source has given fewer than 2^64
-- bytes.
pub record ReportsItems (remaining_before remaining_after : Option (List ℕ))
    (old new : ReaderState) (count_before count_after : ℕ) (text : List ℕ)
    (malformed : Option MalformedSequence) (had_before had_after : Bool) : Type 0 where
  pub hands_out : HandsOut remaining_before remaining_after old new
      (text ++ replacement_if malformed) had_before had_after
  pub counts : (given : ℕ) → HasGiven count_before old given
      → HasGiven count_after new (given + length hands_out.bytes)
  pub passed : (given : ℕ) → HasGiven count_before old given
      → given + length hands_out.bytes < 2 ^ 64
      → PassesItems given old new hands_out.bytes (part_items text malformed)

-- what a turn of the decoder reports

-- the lengths that a call of the decoder has reported
abbrev pub lens_of_result : DecoderResult → Option MalformedLens
lens_of_result result.InputEmpty = None
lens_of_result result.OutputFull = None
lens_of_result (result.Malformed l a) = Some (record { len = l; after = a })

-- U+FFFD in UTF-8 if a malformed sequence is reported
abbrev pub replacement_of_lens : Option MalformedLens → List ℕ
replacement_of_lens None = []
replacement_of_lens (Some lens) = encode_utf8 0xFFFD

abbrev pub reports_malformed : Option MalformedLens → Bool
reports_malformed None = false
reports_malformed (Some lens) = true

-- bounds of the lengths
pub record AreShortLens (lens : MalformedLens) : Type 0 where
  pub some : 0 < lens.len
  pub short : lens.len ≤ 4
  pub few : lens.len + lens.after ≤ 8

abbrev pub HasShortLens : Option MalformedLens → Type 0
HasShortLens None = Unit {0}
HasShortLens (Some lens) = AreShortLens lens

-- The item of the malformed sequence, if the source has given `given` bytes and `unread` of them
-- are not decoded. `recent` ends with the bytes decoded last.
abbrev pub items_of_lens : ℕ → ℕ → List ℕ → Option MalformedLens → List Item
items_of_lens given unread recent None = []
items_of_lens given unread recent (Some lens) = malformed_item
    (given - unread - lens.after - lens.len)
    (take lens.len (drop (length recent - lens.after - lens.len) recent)) ∷ []

-- The items owed before a turn are those of its text, the one that it reports, and those owed after
-- it.
abbrev pub TurnPassesItems : ReaderState → ReaderState → List ℕ → Option MalformedLens → List ℕ
    → Type 0
TurnPassesItems old new text lens recent =
    (given : ℕ) → length old.unread + length old.decoder.pending ≤ given
    → PassesItems given old new []
    (map character_item (chars text) ++ items_of_lens given (length new.unread) recent lens)
