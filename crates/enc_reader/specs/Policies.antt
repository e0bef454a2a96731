-- The text of items, by what stands for malformed sequences.
use Rattle.std.specs.Prelude.{ℕ, ◌+◌, ◌/◌, ◌%◌, nat_lt, List, [], ◌∷◌, ◌++◌, Option, Some, None}
use Rattle.std.specs.Prelude.{if◌then◌else◌}
use Rattle.enc_reader.specs.declared.malformed_policy.MalformedPolicy.{MalformedPolicy}
use Rattle.enc_reader.specs.declared.malformed_policy.MalformedPolicy.TheVariants.{Replace, Ignore, Escape, Report}
use Rattle.enc_reader.specs.Items.{Item}

-- the hexadecimal digit of a number below 16, in lower case
abbrev pub hex_digit : ℕ → ℕ
hex_digit n = if nat_lt n 10 then 0x30 + n else 0x57 + n

-- a byte as `\xNN`
abbrev pub escaped_byte : ℕ → List ℕ
escaped_byte b = 0x5C ∷ 0x78 ∷ hex_digit (b / 16) ∷ hex_digit (b % 16) ∷ []

abbrev pub escaped : List ℕ → List ℕ
escaped [] = []
escaped (b ∷ bs) = escaped_byte b ++ escaped bs

-- The characters in place of a malformed sequence with these bytes. None stand for one that is
-- reported.
abbrev pub text_of_malformed : MalformedPolicy → List ℕ → List ℕ
text_of_malformed Replace bytes = 0xFFFD ∷ []
text_of_malformed Ignore bytes = []
text_of_malformed Escape bytes = escaped bytes
text_of_malformed Report bytes = []

abbrev pub text_of_item : MalformedPolicy → ℕ → Option (ℕ × List ℕ) → List ℕ
text_of_item policy c None = c ∷ []
text_of_item policy c (Some found) = text_of_malformed policy found.1

-- the characters that stand for some items
abbrev pub text_by : MalformedPolicy → List Item → List ℕ
text_by policy [] = []
text_by policy (item ∷ items) = text_of_item policy item.char item.malformed ++ text_by policy items
