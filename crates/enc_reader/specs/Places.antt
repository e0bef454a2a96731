-- Places in a text, by line and column.
use Rattle.std.specs.Prelude.{ℕ, ◌+◌, ◌-◌, ◌^◌, nat_eq, min, List, [], ◌∷◌, ◌++◌, Option, Some, None}
use Rattle.std.specs.Prelude.{if◌then◌else◌}
use Rattle.enc_reader.specs.declared.position.Position.{Position}
use Rattle.enc_reader.specs.declared.line.PlacedSequence.{PlacedSequence}
use Rattle.enc_reader.specs.Items.{Item}
use Rattle.enc_reader.specs.Reporting.{malformed_bytes}

-- the place of the first character of a text
abbrev pub start_of_text : Position
start_of_text = record { line = 1; column = 1 }

abbrev pub start_of_next_line : Position → Position
start_of_next_line p = record { line = min (p.line + 1) (2 ^ 64 - 1); column = 1 }

-- the place after a character: the next line after a line feed, and the next column otherwise
abbrev pub after_character : Position → ℕ → Position
after_character p c = if nat_eq c 10 then start_of_next_line p else record {
  line = p.line;
  column = min (p.column + 1) (2 ^ 64 - 1);
}

-- The place after some items, the first of which stands at p. A malformed sequence is one column.
abbrev pub position_after : Position → List Item → Position
position_after p [] = p
position_after p (item ∷ items) = position_after (after_character p item.char) items

-- A malformed sequence with its place.
pub record Placed : Type 0 where
  pub offset : ℕ
  pub bytes : List ℕ
  pub position : Position

abbrev pub placed_at : Position → Option (ℕ × List ℕ) → List Placed
placed_at p None = []
placed_at p (Some found) = record { offset = found.0; bytes = found.1; position = p } ∷ []

-- the malformed sequences among some items, the first of which stands at p
abbrev pub placed : Position → List Item → List Placed
placed p [] = []
placed p (item ∷ items) =
    placed_at p item.malformed ++ placed (after_character p item.char) items

-- the same of a sequence that a reader has reported
abbrev pub placed_of : PlacedSequence → Placed
placed_of s = record {
  offset = s.sequence.offset;
  bytes = malformed_bytes s.sequence;
  position = s.position;
}
