-- The name of an encoding (Encoding Standard 4.2, table of names and labels).
use Rattle.std.specs.Prelude.{ℕ, List, ◌++◌, codes}
use Rattle.enc_stream.specs.declared.encoding.Encoding.{Encoding}
use Rattle.enc_names.specs.EncodingTable.{name_by_id}

-- the name of an encoding
abbrev pub name_of : Encoding → List ℕ
name_of e = name_by_id e.id

-- what `{:?}` prints, as `Encoding { Shift_JIS }`
abbrev pub debug_text_of : Encoding → List ℕ
debug_text_of e = codes "Encoding { " ++ name_of e ++ codes " }"
