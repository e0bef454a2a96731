-- Texts that are encoded and decoded again (Encoding Standard 4.1, "process a queue", with an
-- encoder and then with a decoder).
use Rattle.std.specs.Prelude.{ℕ, ◌+◌, ◌-◌, Bool, true, false, not, ◌==◌, ◌&&◌, ◌||◌, nat_le, Option, Some, None, List}
use Rattle.std.specs.Prelude.{[], ◌∷◌, if◌then◌else◌}
use Rattle.enc_codec.specs.Codecs.{codec_rule}
use Rattle.enc_decoder.specs.Segmentation.{sequences_of}
use Rattle.enc_decoder.specs.Sequence.{Sequence}
use Rattle.enc_encoder.specs.Barring.{barring_rule}
use Rattle.enc_encoder.specs.EncoderRule.{EncoderRule}
use Rattle.enc_encoder.specs.Text.{bytes_of_text}
use Rattle.enc_encoder.specs.declared.character_set.CharacterSet.TheVariants.{Ascii}
use Rattle.enc_index.specs.declared.codec.Codec.{Codec}
use Rattle.enc_index.specs.declared.codec.Codec.TheVariants.{ShiftJis, EucJp, Gbk, Gb18030, Iso2022Jp}
use Rattle.enc_index_pointers.specs.Pointers.{shift_jis_pointer}
use Rattle.enc_encode.specs.Japanese.{is_halfwidth_katakana, with_fullwidth_minus}
use Rattle.enc_encode.specs.Iso2022Jp.{lookup_char}
use Rattle.enc_round_trip.specs.Replaced.{replaced_characters}

-- U+00A5 and U+203E have the bytes of `\` and `~`
abbrev pub ascii_twin_or : (ℕ → ℕ) → ℕ → ℕ
ascii_twin_or others c = if c == 0xA5 then 0x5C else if c == 0x203E then 0x7E else others c

-- The character of a pointer in Shift_JIS: one of private use, by the pointer alone, or that of the
-- index. (The standard's index has no entry at a pointer for private use.)
abbrev pub private_use_or : ℕ → Option ℕ → ℕ
private_use_or c None = c
private_use_or c (Some p) = if nat_le 8836 p && nat_le p 10715 then 0xE000 + (p - 8836) else c

-- the character that the bytes of one decode to in Shift_JIS, except those of `\` and `~`
abbrev pub char_read_in_shift_jis : ℕ → ℕ
char_read_in_shift_jis c =
    if nat_le c 0x80 || is_halfwidth_katakana c then c
    else private_use_or (with_fullwidth_minus c) (shift_jis_pointer (with_fullwidth_minus c))

-- the second character of a row, by the first; any other character is itself
abbrev pub char_by_rows : List (ℕ × ℕ) → ℕ → ℕ
char_by_rows [] c = c
char_by_rows (row ∷ rows) c = if row.0 == c then row.1 else char_by_rows rows c

-- The character that the bytes of a character decode to. It is the same one, except in some cases
-- in the three Japanese encodings, gb18030 and GBK, in which another has its bytes (Encoding
-- Standard 10.2.2, 12.1.2, 12.2.2 and 12.3.2).
abbrev pub char_read_back : Codec → ℕ → ℕ
char_read_back ShiftJis c = ascii_twin_or char_read_in_shift_jis c
char_read_back EucJp c = ascii_twin_or with_fullwidth_minus c
char_read_back Iso2022Jp c = lookup_char c
char_read_back Gbk c = char_by_rows replaced_characters c
char_read_back Gb18030 c = char_by_rows replaced_characters c
char_read_back _ c = c

-- the sequences of a text's bytes: those of the encoder without the barred characters, decoded by
-- the same codec
abbrev pub sequences_read_back : Codec → List ℕ → EncoderRule → List ℕ → List Sequence
sequences_read_back codec barred e text =
    sequences_of (codec_rule codec) 0 (bytes_of_text (barring_rule barred e) Ascii text)

-- whether a character is the first of a row
abbrev pub has_row : List (ℕ × ℕ) → ℕ → Bool
has_row [] c = false
has_row (row ∷ rows) c = row.0 == c || has_row rows c

-- whether a text has a character that gb18030 and GBK read back as another
abbrev pub any_read_as_other : List ℕ → Bool
any_read_as_other [] = false
any_read_as_other (c ∷ t) = has_row replaced_characters c || any_read_as_other t

-- whether each character of a text decodes to itself
abbrev pub keeps_characters : Codec → List ℕ → Bool
keeps_characters ShiftJis t = false
keeps_characters EucJp t = false
keeps_characters Iso2022Jp t = false
keeps_characters Gbk t = not (any_read_as_other t)
keeps_characters Gb18030 t = not (any_read_as_other t)
keeps_characters _ t = true
