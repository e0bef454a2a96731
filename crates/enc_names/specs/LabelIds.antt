-- The labels of the encodings, and the encoding that a label names (Encoding Standard 4.2, "get an
-- encoding").
use Rattle.std.specs.Prelude.{ℕ, ◌-◌, if◌then◌else◌, List, [], ◌∷◌, length, take, drop, map, Option, Some, None}
use Rattle.std.specs.List.{prefix_len, suffix_len, flat_map}
use Rattle.std.specs.Char.{is_ascii_whitespace, to_ascii_lowercase}
use Rattle.std.specs.Str.{bytes_eq}
use Rattle.enc_names.specs.declared.encoding_id.EncodingId.{EncodingId}
use Rattle.enc_names.specs.EncodingTable.{ids, labels_by_id}

-- the pairs of a label and its encoding
unfoldable pub id_pairs : List (List ℕ × EncodingId)
id_pairs = flat_map (λ id. map (λ label. (label, id)) (labels_by_id id)) ids

-- the encoding that a word is paired with, if any
abbrev pub id_paired_with : List (List ℕ × EncodingId) → List ℕ → Option EncodingId
id_paired_with [] word = None
id_paired_with (pair ∷ pairs) word =
    if bytes_eq pair.0 word then Some pair.1 else id_paired_with pairs word

-- without the ASCII whitespace at the start: tab, line feed, form feed, carriage return and space
abbrev pub trim_start : List ℕ → List ℕ
trim_start bytes = drop (prefix_len is_ascii_whitespace bytes) bytes

-- without the ASCII whitespace at the end
abbrev pub trim_end : List ℕ → List ℕ
trim_end bytes = take (length bytes - suffix_len is_ascii_whitespace bytes) bytes

-- "Get an encoding": the encoding that the label is paired with, after its ASCII whitespace is
-- trimmed and A to Z are lowercased, if any.
abbrev pub id_of_label : List ℕ → Option EncodingId
id_of_label label = id_paired_with id_pairs (map to_ascii_lowercase (trim_end (trim_start label)))
