-- What a reader meets in its input: characters, and malformed sequences with their offsets and
-- their bytes (Encoding Standard 4.1, "handler").
use Rattle.std.specs.Prelude.{ℕ, ◌+◌, List, [], ◌∷◌, ◌++◌, length, map, Option, Some, None}
use Rattle.std.specs.Prelude.{if◌then◌else◌}
use Rattle.enc_decoder.specs.Sequence.{Sequence, is_malformed}
use Rattle.enc_stream.specs.declared.bom.BomHandling.{BomHandling}
use Rattle.enc_stream.specs.declared.encoding.Encoding.{Encoding}
use Rattle.enc_stream.specs.Decoding.{whole_sequences}

-- A character of the text. If it is the U+FFFD of a malformed sequence, it has the offset and the
-- bytes of that.
pub record Item : Type 0 where
  pub char : ℕ
  pub malformed : Option (ℕ × List ℕ)

abbrev pub character_item : ℕ → Item
character_item c = record { char = c; malformed = None }

abbrev pub malformed_item : ℕ → List ℕ → Item
malformed_item at bytes = record { char = 0xFFFD; malformed = Some (at, bytes) }

-- the items of a sequence at this offset
abbrev pub items_of : ℕ → Sequence → List Item
items_of at s = if is_malformed s.kind then malformed_item at s.bytes ∷ []
    else map character_item s.text

-- those of some sequences, if the first has the offset `at`
abbrev pub items_from : ℕ → List Sequence → List Item
items_from at [] = []
items_from at (s ∷ ss) = items_of at s ++ items_from (at + length s.bytes) ss

-- those of a whole input
abbrev pub whole_items : BomHandling → Encoding → List ℕ → List Item
whole_items handling e bytes = items_from 0 (whole_sequences handling e bytes)

-- the offset and length of a malformed sequence
abbrev pub fault_of : Option (ℕ × List ℕ) → List (ℕ × ℕ)
fault_of None = []
fault_of (Some found) = (found.0, length found.1) ∷ []

abbrev pub faults_among : List Item → List (ℕ × ℕ)
faults_among [] = []
faults_among (item ∷ items) = fault_of item.malformed ++ faults_among items
