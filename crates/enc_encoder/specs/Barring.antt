-- Encodings with barred characters, which are unmappable because a caller lists them.
use Rattle.std.specs.Prelude.{ℕ, Bool, true, false, ◌==◌, ◌||◌, ◌&&◌, nat_le, Option, None, List, [], ◌∷◌}
use Rattle.std.specs.Prelude.{if◌then◌else◌}
use Rattle.enc_encoder.specs.EncoderRule.{EncoderRule}

-- whether a list contains a character
abbrev pub contains_char : List ℕ → ℕ → Bool
contains_char [] c = false
contains_char (x ∷ b) c = x == c || contains_char b c

-- whether each character of a list is U+0080 or above, as callers must ensure
abbrev pub are_beyond_ascii : List ℕ → Bool
are_beyond_ascii [] = true
are_beyond_ascii (x ∷ b) = nat_le 0x80 x && are_beyond_ascii b

-- Whether a list bars a character: it contains the character. ASCII, of which references are made,
-- is never barred. So the laws hold for every list, and not only for those that callers may give.
abbrev pub is_barred : List ℕ → ℕ → Bool
is_barred b c = contains_char b c && nat_le 0x80 c

-- The same bytes, but none for barred characters. The character itself is barred, and not one that
-- is looked up in its place.
abbrev pub bytes_unless_barred : List ℕ → (ℕ → Option (List ℕ)) → ℕ → Option (List ℕ)
bytes_unless_barred b bytes c = if is_barred b c then None else bytes c

-- the same rule, but barred characters are unmappable
abbrev pub barring_rule : List ℕ → EncoderRule → EncoderRule
barring_rule b e = record e { bytes = bytes_unless_barred b e.bytes }
