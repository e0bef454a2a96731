-- UTF-16 as bytes (Unicode Standard 3.10, encoding schemes UTF-16BE and UTF-16LE).
use Rattle.std.specs.Prelude.{ℕ, ◌/◌, ◌%◌, List, [], ◌∷◌, ◌++◌}
use Rattle.std.specs.Char.Escape.{encode_utf16}
use Rattle.enc_utf8.specs.Text.{units_of_text}
use Rattle.enc_writer.specs.declared.byte_order.ByteOrder.{ByteOrder}
use Rattle.enc_writer.specs.declared.byte_order.ByteOrder.TheVariants.{LittleEndian, BigEndian}

-- the two bytes of a code unit
abbrev pub unit_bytes : ByteOrder → ℕ → List ℕ
unit_bytes LittleEndian u = u % 256 ∷ u / 256 ∷ []
unit_bytes BigEndian u = u / 256 ∷ u % 256 ∷ []

-- the bytes of code units
abbrev pub bytes_of_units : ByteOrder → List ℕ → List ℕ
bytes_of_units order [] = []
bytes_of_units order (u ∷ us) = unit_bytes order u ++ bytes_of_units order us

-- the bytes of a text: of the code units of its characters
abbrev pub utf16_bytes : ByteOrder → List ℕ → List ℕ
utf16_bytes order text = bytes_of_units order (units_of_text encode_utf16 text)
