-- Byte order marks (Encoding Standard 6, "BOM sniff").
use Rattle.std.specs.Prelude.{ℕ, Bool, true, false, ◌&&◌, if◌then◌else◌, List, [], ◌∷◌, length, drop, nat_eq, Option}
use Rattle.std.specs.Prelude.{Some, None, option_map}
use Rattle.std.specs.List.{starts_with}
use Rattle.enc_decoder.specs.declared.byte_codec.Kind.TheVariants.{Skipped}
use Rattle.enc_decoder.specs.Sequence.{Sequence}
use Rattle.enc_decoder.specs.Segmentation.{sequences_of}
use Rattle.enc_names.specs.declared.encoding_id.EncodingId.{EncodingId}
use Rattle.enc_names.specs.declared.encoding_id.EncodingId.TheVariants.{Utf8, Utf16be, Utf16le}
use Rattle.enc_stream.specs.declared.encoding.Encoding.{Encoding}
use Rattle.enc_stream.specs.declared.bom.BomHandling.{BomHandling}
use Rattle.enc_stream.specs.declared.bom.BomHandling.TheVariants.{Off, Sniff, Remove}
use Rattle.enc_stream.specs.Encodings.{rule_of}

-- a byte order mark and its encoding
pub record Mark : Type 0 where
  pub bytes : List ℕ
  pub encoding : Encoding

abbrev pub utf_8_mark : Mark
utf_8_mark = record { bytes = 0xEF ∷ 0xBB ∷ 0xBF ∷ []; encoding = record { id = Utf8 } }

abbrev pub utf_16be_mark : Mark
utf_16be_mark = record { bytes = 0xFE ∷ 0xFF ∷ []; encoding = record { id = Utf16be } }

abbrev pub utf_16le_mark : Mark
utf_16le_mark = record { bytes = 0xFF ∷ 0xFE ∷ []; encoding = record { id = Utf16le } }

-- the three byte order marks
abbrev pub marks : List Mark
marks = utf_8_mark ∷ utf_16be_mark ∷ utf_16le_mark ∷ []

-- the first of these byte order marks that the bytes begin with
abbrev pub find_mark : List Mark → List ℕ → Option Mark
find_mark [] bytes = None
find_mark (m ∷ others) bytes =
    if starts_with nat_eq bytes m.bytes then Some m else find_mark others bytes

-- The encoding and the length of the byte order mark at the start, if there is one.
abbrev pub bom_of : List ℕ → Option (Encoding × ℕ)
bom_of bytes = option_map (λ m. (m.encoding, length m.bytes)) (find_mark marks bytes)

-- the byte order mark of an encoding, if it has one
abbrev pub marks_of_encoding : EncodingId → List Mark
marks_of_encoding Utf8 = utf_8_mark ∷ []
marks_of_encoding Utf16be = utf_16be_mark ∷ []
marks_of_encoding Utf16le = utf_16le_mark ∷ []
marks_of_encoding _ = []

-- The byte order marks that a decoder looks for: all three, that of its own encoding, or none.
abbrev pub marks_looked_for : BomHandling → Encoding → List Mark
marks_looked_for Off e = []
marks_looked_for Sniff e = marks
marks_looked_for Remove e = marks_of_encoding e.id

-- the bytes of a byte order mark, if there is one
abbrev pub mark_bytes : Option Mark → List ℕ
mark_bytes None = []
mark_bytes (Some m) = m.bytes

-- the encoding of a byte order mark, or this one if there is none
abbrev pub encoding_of_mark_or : Option Mark → Encoding → Encoding
encoding_of_mark_or None e = e
encoding_of_mark_or (Some m) e = m.encoding

-- A byte order mark is a sequence that is skipped, as an escape sequence is. It designates an
-- encoding.
abbrev pub mark_sequence : Mark → Sequence
mark_sequence m = record { bytes = m.bytes; text = []; kind = Skipped; set = 0 }

-- the one that is found, if one is
abbrev pub mark_sequences : Option Mark → List Sequence
mark_sequences None = []
mark_sequences (Some m) = mark_sequence m ∷ []

-- The sequences of some bytes: a byte order mark, and then those of its encoding; or those of this
-- encoding, from a designated character set on, if there is none.
abbrev pub sequences_by_mark : Option Mark → Encoding → ℕ → List ℕ → List Sequence
sequences_by_mark None e set bytes = sequences_of (rule_of e) set bytes
sequences_by_mark (Some m) e set bytes =
    mark_sequence m ∷ sequences_of (rule_of m.encoding) 0 (drop (length m.bytes) bytes)

-- whether these bytes begin others, and are fewer
abbrev pub is_proper_prefix : List ℕ → List ℕ → Bool
is_proper_prefix x [] = false
is_proper_prefix [] (b ∷ bytes) = true
is_proper_prefix (a ∷ x) (b ∷ bytes) = nat_eq b a && is_proper_prefix x bytes

-- the byte order marks that may still come after these bytes: those that they begin
abbrev pub marks_begun : List Mark → List ℕ → List Mark
marks_begun [] x = []
marks_begun (m ∷ others) x =
    if is_proper_prefix x m.bytes then m ∷ marks_begun others x else marks_begun others x

-- whether there is one
abbrev pub any_mark : List Mark → Bool
any_mark [] = false
any_mark (m ∷ others) = true
