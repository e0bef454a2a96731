-- Lines of text with their malformed sequences.
use Rattle.std.specs.Prelude.{◌≡◌, ◌≢◌, ℕ, ◌+◌, ◌-◌, ◌^◌, ◌<◌, ◌⊎◌, Bool, true, false, List, [], ◌∷◌, ◌++◌}
use Rattle.std.specs.Prelude.{length, take, drop, map, All, Option, None, string_bytes, ◌≤◌}
use Rattle.std.specs.Char.{encode_utf8}
use Rattle.std.specs.Io.KnownBytes.{Consumes}
use Rattle.enc_utf8.specs.Text.{units_of_text}
use Rattle.enc_reader.specs.declared.malformed_policy.MalformedPolicy.{MalformedPolicy}
use Rattle.enc_reader.specs.declared.malformed_policy.MalformedPolicy.TheVariants.{Report}
use Rattle.enc_reader.specs.declared.position.Position.{Position}
use Rattle.enc_reader.specs.declared.line.Line.{Line}
use Rattle.enc_reader.specs.declared.line_reader.LineReader.{LineReader}
use Rattle.enc_reader.specs.declared.decode_reader.ReadFault.{ReadFault}
use Rattle.enc_reader.specs.declared.decode_reader.ReadFault.TheVariants.{Reader}
use Rattle.enc_reader.specs.declared.line_reader_fault.LineReaderFault.{LineReaderFault}
use Rattle.enc_reader.specs.declared.line_reader_fault.LineReaderFault.TheVariants.{Read, Memory, Malformed}
use Rattle.enc_reader.specs.Items.{Item, malformed_item}
use Rattle.enc_reader.specs.Reading.{ReaderState, IsReaderAtEnd, NoneDetermined}
use Rattle.enc_reader.specs.Counting.{HasGiven, owed_items}
use Rattle.enc_reader.specs.Reporting.{part_items, malformed_bytes}
use Rattle.enc_reader.specs.Reader.{state_of}
use Rattle.enc_reader.specs.Places.{position_after, Placed, placed, placed_of}
use Rattle.enc_reader.specs.Policies.{text_by}

-- The state between two reads of lines: that of the reader, the number of bytes that its source has
-- given, the items that the reader has handed out and that are not taken yet, and the place of the
-- next item.
pub record LineState : Type 0 where
  pub reader : ReaderState
  pub given : ℕ
  pub held : List Item
  pub position : Position

abbrev pub line_state_of : {T : Type 0} {S : _} → LineReader T S → LineState
line_state_of r = record {
  reader = state_of r.reader;
  given = r.reader.given;
  held = part_items (take (r.filled - r.at) (drop r.at r.text.now)) r.malformed;
  position = r.position;
}

-- The items still to be taken, if the source has given `given` bytes and still gives exactly z.
abbrev pub items_to_take : ℕ → LineState → List ℕ → List Item
items_to_take given s z = s.held ++ owed_items given s.reader z

-- The items `taken` are taken, the next ones. Nothing is lost, and nothing comes twice. They have
-- the offsets of their malformed sequences while the source has given fewer than 2^64 bytes.
pub record TakesItems (remaining_before remaining_after : Option (List ℕ)) (old new : LineState)
    (taken : List Item) (lost : Bool) : Type 0 where
  pub bytes : List ℕ
  pub given : Consumes remaining_before remaining_after bytes
  pub none_after : old.reader.ended ≡ true → (bytes ≡ []) × (new.reader.ended ≡ true)
  -- Once the source is lost, its bytes are not counted any more.
  pub counts : lost ≡ false → (given : ℕ) → HasGiven old.given old.reader given
      → HasGiven new.given new.reader (given + length bytes)
  pub passed : (given : ℕ) → HasGiven old.given old.reader given
      → given + length bytes < 2 ^ 64 → (z : List ℕ) → (new.reader.ended ≡ true → z ≡ [])
      → items_to_take given old (bytes ++ z)
      ≡ taken ++ items_to_take (given + length bytes) new z
  pub position : new.position ≡ position_after old.position taken

-- A line grows by the text of some items, and by those of them that are malformed. The first of
-- them stands at p.
pub record AppendsItems (policy : MalformedPolicy) (p : Position) (before after : Line)
    (items : List Item) : Type 0 where
  pub text : string_bytes after.text
      ≡ string_bytes before.text ++ units_of_text encode_utf8 (text_by policy items)
  pub malformed : map placed_of after.malformed.items
      ≡ map placed_of before.malformed.items ++ placed p items
  -- A sequence that is to be reported is not passed over.
  pub none_passed : policy ≡ Report → All (λ item. item.malformed ≡ None) items

-- a line that does not grow
pub record SameLine (before after : Line) : Type 0 where
  pub text : string_bytes after.text ≡ string_bytes before.text
  pub malformed : after.malformed.items ≡ before.malformed.items

-- an item that is no line feed
abbrev pub IsNoFeed : Item → Type 0
IsNoFeed item = item.char ≢ 10

-- Items end with a line feed, the only one among them.
pub record IsLine (items : List Item) : Type 0 where
  pub before : List Item
  pub feed : Item
  pub parts : items ≡ before ++ feed ∷ []
  pub no_feed : All IsNoFeed before
  pub is_feed : feed.char ≡ 10

-- the end: nothing is held, and the reader is at its end
pub record AreLinesAtEnd (remaining : Option (List ℕ)) (s : LineState) : Type 0 where
  pub none_held : s.held ≡ []
  pub reader : IsReaderAtEnd remaining s.reader

-- Items of a line are taken that end with its line feed if `is_line`, and have none otherwise.
pub record TakesPart (policy : MalformedPolicy) (remaining_before remaining_after : Option (List ℕ))
    (old new : LineState) (before after : Line) (is_line : Bool) : Type 0 where
  pub taken : List Item
  pub takes : TakesItems remaining_before remaining_after old new taken false
  pub appends : AppendsItems policy old.position before after taken
  pub some : taken ≢ []
  pub line : is_line ≡ true → IsLine taken
  pub part : is_line ≡ false → All IsNoFeed taken

-- A line is read: up to and with the next line feed, or to the end. `some` says whether any item is
-- taken.
pub record ReadsLine (policy : MalformedPolicy) (remaining_before remaining_after : Option (List ℕ))
    (old new : LineState) (before after : Line) (some : Bool) : Type 0 where
  pub taken : List Item
  pub takes : TakesItems remaining_before remaining_after old new taken false
  pub appends : AppendsItems policy old.position before after taken
  pub whole : IsLine taken ⊎ (All IsNoFeed taken × AreLinesAtEnd remaining_after new)
  pub any : some ≡ true → taken ≢ []
  pub none : some ≡ false → taken ≡ []

-- The source, which had not failed before, failed meanwhile, or gave at least 2^64 - 1 bytes. All
-- items that were determined have been taken.
pub record LosesSource (failed_before failed_after : Bool) (new : LineState) (bytes : List ℕ)
    : Type 0 where
  pub none_held : new.held ≡ []
  pub none_determined : NoneDetermined new.reader
  pub not_before : failed_before ≡ false
  pub why : (failed_after ≡ true) ⊎ (2 ^ 64 - 1 ≤ length bytes)

-- A read fails, and nothing is taken.
pub record FailsToFill (remaining_before remaining_after : Option (List ℕ)) (old new : LineState)
    (failed_before failed_after : Bool) (fault : ReadFault) : Type 0 where
  pub takes : TakesItems remaining_before remaining_after old new [] true
  pub loses : fault ≡ Reader → LosesSource failed_before failed_after new takes.bytes

-- the item of a malformed sequence that is reported
abbrev pub item_of_fault : LineReaderFault → List Item
item_of_fault (Read fault) = []
item_of_fault Memory = []
item_of_fault (Malformed s) = malformed_item s.sequence.offset (malformed_bytes s.sequence) ∷ []

-- its place
abbrev pub placed_by_fault : LineReaderFault → List Placed
placed_by_fault (Read fault) = []
placed_by_fault Memory = []
placed_by_fault (Malformed s) = placed_of s ∷ []

-- whether the reader has failed
abbrev pub is_read_fault : LineReaderFault → Bool
is_read_fault (Read fault) = true
is_read_fault Memory = false
is_read_fault (Malformed s) = false

-- A line stops before its line feed: the items before are taken, and the malformed sequence that is
-- reported.
pub record StopsLine (policy : MalformedPolicy) (remaining_before remaining_after : Option (List ℕ))
    (old new : LineState) (before after : Line) (failed_before failed_after : Bool)
    (fault : LineReaderFault) : Type 0 where
  pub taken : List Item
  pub takes : TakesItems remaining_before remaining_after old new (taken ++ item_of_fault fault)
      (is_read_fault fault)
  pub appends : AppendsItems policy old.position before after taken
  pub no_feed : All IsNoFeed taken
  pub place : placed_by_fault fault
      ≡ placed (position_after old.position taken) (item_of_fault fault)
  pub loses : fault ≡ Read Reader → LosesSource failed_before failed_after new takes.bytes
