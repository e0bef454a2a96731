-- The numbers of the single-byte indexes, by which their tables follow one another, and letters of
-- each.
-- Written by scripts/make-sources from data/templates: change the text there, and not this file.
use Rattle.std.specs.Prelude.{ℕ}
use Rattle.enc_index.specs.declared.single_byte_index.SingleByteIndex.{SingleByteIndex}
use Rattle.enc_index.specs.declared.single_byte_index.SingleByteIndex.TheVariants as index

abbrev pub table_number : SingleByteIndex → ℕ
table_number index.Ibm866 = 0
table_number index.Iso88592 = 1
table_number index.Iso88593 = 2
table_number index.Iso88594 = 3
table_number index.Iso88595 = 4
table_number index.Iso88596 = 5
table_number index.Iso88597 = 6
table_number index.Iso88598 = 7
table_number index.Iso885910 = 8
table_number index.Iso885913 = 9
table_number index.Iso885914 = 10
table_number index.Iso885915 = 11
table_number index.Iso885916 = 12
table_number index.Koi8R = 13
table_number index.Koi8U = 14
table_number index.Macintosh = 15
table_number index.Windows874 = 16
table_number index.Windows1250 = 17
table_number index.Windows1251 = 18
table_number index.Windows1252 = 19
table_number index.Windows1253 = 20
table_number index.Windows1254 = 21
table_number index.Windows1255 = 22
table_number index.Windows1256 = 23
table_number index.Windows1257 = 24
table_number index.Windows1258 = 25
table_number index.XMacCyrillic = 26

-- the first and the last of letters whose code points follow one by one, and how much greater than a
-- byte its code point is
abbrev pub letters_of : SingleByteIndex → ℕ × ℕ × ℕ
letters_of index.Ibm866 = (0x80, 0xAF, 0x390)
letters_of index.Iso88592 = (0xFF, 0x0, 0x0)
letters_of index.Iso88593 = (0xFF, 0x0, 0x0)
letters_of index.Iso88594 = (0xFF, 0x0, 0x0)
letters_of index.Iso88595 = (0xAE, 0xEF, 0x360)
letters_of index.Iso88596 = (0xC1, 0xDA, 0x560)
letters_of index.Iso88597 = (0xD3, 0xFE, 0x2D0)
letters_of index.Iso88598 = (0xE0, 0xFA, 0x4F0)
letters_of index.Iso885910 = (0xFF, 0x0, 0x0)
letters_of index.Iso885913 = (0xFF, 0x0, 0x0)
letters_of index.Iso885914 = (0xDF, 0xEF, 0x0)
letters_of index.Iso885915 = (0xBF, 0xFF, 0x0)
letters_of index.Iso885916 = (0xFF, 0x0, 0x0)
letters_of index.Koi8R = (0xFF, 0x0, 0x0)
letters_of index.Koi8U = (0xFF, 0x0, 0x0)
letters_of index.Macintosh = (0xFF, 0x0, 0x0)
letters_of index.Windows874 = (0xA1, 0xDA, 0xD60)
letters_of index.Windows1250 = (0xFF, 0x0, 0x0)
letters_of index.Windows1251 = (0xC0, 0xFF, 0x350)
letters_of index.Windows1252 = (0xA0, 0xFF, 0x0)
letters_of index.Windows1253 = (0xD3, 0xFE, 0x2D0)
letters_of index.Windows1254 = (0xDF, 0xEF, 0x0)
letters_of index.Windows1255 = (0xE0, 0xFA, 0x4F0)
letters_of index.Windows1256 = (0xC1, 0xD6, 0x560)
letters_of index.Windows1257 = (0xFF, 0x0, 0x0)
letters_of index.Windows1258 = (0xFF, 0x0, 0x0)
letters_of index.XMacCyrillic = (0xE0, 0xFE, 0x350)
