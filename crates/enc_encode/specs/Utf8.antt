-- The bytes of characters in UTF-8 (Encoding Standard 8.1.2, "UTF-8 encoder"; Unicode Standard 3.9,
-- D92).
use Rattle.std.specs.Prelude.{ℕ, Option, Some, List, encode_utf8}

-- the bytes of a character
abbrev pub utf_8_bytes : ℕ → Option (List ℕ)
utf_8_bytes c = Some (encode_utf8 c)
