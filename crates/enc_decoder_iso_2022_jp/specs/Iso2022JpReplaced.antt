-- Bytes in ASCII in error mode "replacement" (Encoding Standard 4.1 and 12.2.1).
use Rattle.std.specs.Prelude.{ℕ, ◌==◌, Option, Some, None, if◌then◌else◌}
use Rattle.enc_decoder_iso_2022_jp.specs.Iso2022Jp.{ascii_char}

-- the character, or U+FFFD if there is none
abbrev pub char_or_replacement : Option ℕ → ℕ
char_or_replacement (Some c) = c
char_or_replacement None = 0xFFFD

-- The text of a byte, which is U+FFFD if the byte is malformed. None for 1B: whether that is
-- malformed depends on the bytes after it.
abbrev pub replaced_ascii_char : ℕ → Option ℕ
replaced_ascii_char b = if b == 0x1B then None else Some (char_or_replacement (ascii_char b))
