-- The rules of encodings in which each byte stands alone: the legacy single-byte encodings
-- (Encoding Standard 9.1, "single-byte decoder") and x-user-defined (14.5.1).
use Rattle.std.specs.Prelude.{◌≡◌, ℕ, ◌+◌, ◌-◌, ◌<◌, ◌≤◌, nat_lt, Option, Some, List, [], ◌∷◌, if◌then◌else◌}
use Rattle.std.specs.Char.{IsScalar}
use Rattle.enc_utf8.specs.declared.letters.Letters.{Letters}
use Rattle.enc_decoder.specs.declared.prefix.Prefix.{Prefix}
use Rattle.enc_decoder.specs.declared.prefix.Prefix.TheVariants.{Incomplete}
use Rattle.enc_decoder.specs.Segmentation.{Rule}
use Rattle.enc_decoder.specs.Prefixes.{single_prefix, prefix_rule}
use Rattle.enc_index.specs.declared.table.Planes.TheVariants.{Basic}
use Rattle.enc_index.specs.Index.{index_at}

-- the character of a byte of a legacy single-byte encoding, by the runs of its index
abbrev pub single_byte_char : List (ℕ × ℕ × ℕ) → ℕ → Option ℕ
single_byte_char runs b = if nat_lt b 0x80 then Some b else index_at Basic runs (b - 0x80)

-- the character of a byte of x-user-defined
abbrev pub x_user_defined_char : ℕ → Option ℕ
x_user_defined_char b = if nat_lt b 0x80 then Some b else Some (0xF780 + (b - 0x80))

-- The kind of a prefix, by the characters of bytes. The first byte decides by itself.
unfoldable pub one_byte_prefix : (ℕ → Option ℕ) → List ℕ → Prefix
one_byte_prefix character [] = Incomplete
one_byte_prefix character (b ∷ z) = single_prefix (character b)

-- The rule. Each byte is a sequence by itself (`one_byte_heads`).
abbrev pub one_byte_rule : (ℕ → Option ℕ) → Rule
one_byte_rule character = prefix_rule (one_byte_prefix character)

-- The laws of the characters of bytes: an ASCII byte is the character with its number, and each is
-- of the Basic Multilingual Plane.
pub record AreOneByteChars (character : ℕ → Option ℕ) : Type 0 where
  pub ascii : (b : ℕ) → b < 0x80 → character b ≡ Some b
  pub basic : (b c : ℕ) → b < 256 → character b ≡ Some c → c < 0x1_0000

-- Letters: each byte from the first to the last has the character of one code unit that the shift
-- says.
abbrev pub FollowOneByOne : (ℕ → Option ℕ) → Letters → Type 0
FollowOneByOne character letters = (b : ℕ) → letters.first ≤ b → b ≤ letters.last
    → (character b ≡ Some (b + letters.shift)) × IsScalar (b + letters.shift)
    × (b + letters.shift < 0x1_0000)
