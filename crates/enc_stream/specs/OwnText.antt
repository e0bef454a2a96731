-- Input that is its own text, bytes that equal their text in UTF-8, and answers that lend it.
use Rattle.std.specs.Prelude.{◌≡◌, ℕ, ◌⊎◌, true, List}
use Rattle.std.specs.declared.borrow.CowStr.{CowStr}
use Rattle.std.specs.declared.borrow.CowStr.TheVariants as text
use Rattle.std.specs.declared.borrow.CowSlice.{CowSlice}
use Rattle.std.specs.declared.borrow.CowSlice.TheVariants as slice
use Rattle.std.specs.String.{string_capacity}
use Rattle.std.specs.Vec.{vec_capacity}
use Rattle.enc_utf8.specs.Validity.{IsWellFormedUtf8, AreAscii, AreIso2022JpAscii}
use Rattle.enc_stream.specs.declared.bom.BomHandling.{BomHandling}
use Rattle.enc_stream.specs.declared.encoding.Encoding.{Encoding}
use Rattle.enc_stream.specs.declared.constants.TheConstants.{UTF_8, ISO_2022_JP}
use Rattle.enc_stream.specs.Bom.{marks_looked_for, find_mark}
use Rattle.enc_stream.specs.MarkLaws.{bytes_after_mark}
use Rattle.enc_stream.specs.Decoding.{whole_encoding}
use Rattle.enc_stream.specs.Properties.{is_ascii_compatible}

-- These bytes are their own text: in UTF-8 if they are well-formed, in an ASCII-compatible encoding
-- if they are ASCII, and in ISO-2022-JP if they are ASCII without shift out, shift in and escape.
-- In UTF-16BE, UTF-16LE and replacement no bytes are.
abbrev pub AreTheirOwnText : Encoding → List ℕ → Type 0
AreTheirOwnText e bytes =
    ((e ≡ UTF_8) × IsWellFormedUtf8 bytes)
    ⊎ (((is_ascii_compatible e ≡ true) × AreAscii bytes)
    ⊎ ((e ≡ ISO_2022_JP) × AreIso2022JpAscii bytes))

-- the bytes of a whole input after the byte order mark, if one is looked for and found
abbrev pub unmarked_bytes : BomHandling → Encoding → List ℕ → List ℕ
unmarked_bytes handling e bytes =
    bytes_after_mark (find_mark (marks_looked_for handling e) bytes) bytes

-- The bytes of a whole input after its byte order mark are their own text, in its encoding.
abbrev pub IsItsOwnText : BomHandling → Encoding → List ℕ → Type 0
IsItsOwnText handling e bytes =
    AreTheirOwnText (whole_encoding handling e bytes) (unmarked_bytes handling e bytes)

-- The capacity of an answer: a lent one has none.

abbrev pub owned_str_capacity : {A : Type 0} → CowStr A → ℕ
owned_str_capacity (text.Borrowed r) = 0
owned_str_capacity (text.Owned s) = string_capacity s

abbrev pub owned_slice_capacity : {X A : Type 0} → CowSlice X A → ℕ
owned_slice_capacity (slice.Borrowed r) = 0
owned_slice_capacity (slice.Owned v) = vec_capacity v
