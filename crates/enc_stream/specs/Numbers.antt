-- The numbers of the encodings: their places in the standard's order (Encoding Standard 4.2, table
-- of names and labels), from 0.
use Rattle.std.specs.Prelude.{ℕ, Option, option_map}
use Rattle.enc_names.specs.EncodingTable.{id_of_number}
use Rattle.enc_stream.specs.declared.encoding.Encoding.{Encoding}

-- the encoding with this number, if there is one
abbrev pub encoding_of_number : ℕ → Option Encoding
encoding_of_number number = option_map (λ id. record { id = id }) (id_of_number number)
