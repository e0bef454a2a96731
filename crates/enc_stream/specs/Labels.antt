-- The labels of the encodings, and the encoding that a label names (Encoding Standard 4.2, "get an
-- encoding").
use Rattle.std.specs.Prelude.{ℕ, Bool, true, false, option_and_then, option_map, if◌then◌else◌, List, map, Option, Some}
use Rattle.std.specs.Prelude.{None}
use Rattle.enc_names.specs.declared.encoding_id.EncodingId.{EncodingId}
use Rattle.enc_names.specs.declared.encoding_id.EncodingId.TheVariants.{Replacement}
use Rattle.enc_names.specs.LabelIds.{id_pairs, id_of_label}
use Rattle.enc_stream.specs.declared.encoding.Encoding.{Encoding}

-- the pairs of a label and its encoding
unfoldable pub label_pairs : List (List ℕ × Encoding)
label_pairs = map (λ pair. (pair.0, record { id = pair.1 })) id_pairs

-- Get an encoding: the one that the label names, if any.
abbrev pub encoding_of_label : List ℕ → Option Encoding
encoding_of_label label = option_map (λ id. record { id = id }) (id_of_label label)

abbrev pub is_replacement : EncodingId → Bool
is_replacement Replacement = true
is_replacement _ = false

-- an encoding, unless it is replacement
abbrev pub encoding_unless_replacement : Encoding → Option Encoding
encoding_unless_replacement e = if is_replacement e.id then None else Some e

-- The same, except that no label names replacement.
abbrev pub encoding_of_label_no_replacement : List ℕ → Option Encoding
encoding_of_label_no_replacement label =
    option_and_then encoding_unless_replacement (encoding_of_label label)
