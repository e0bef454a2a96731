-- Written by scripts/make-sources from data/templates: change the text there, and not this file.
pub mod Utf8
pub mod SingleByte
pub mod Japanese
pub mod Katakana
pub mod PrivateUse
pub mod Big5
pub mod EucKr
pub mod ShiftJis
pub mod EucJp
pub mod Gb18030
pub mod Iso2022Jp
pub mod Encoders
pub mod EncoderLaws
pub mod Variant
