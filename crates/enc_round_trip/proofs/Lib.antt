-- Written by scripts/make-sources from data/templates: change the text there, and not this file.
pub mod ReadBackLemmas
pub mod BarringBack
pub mod PointerLemmas
pub mod OneByteBack
pub mod DoubleByteBack
pub mod Big5Back
pub mod EucKrBack
pub mod Gb18030Back
pub mod JapaneseBack
pub mod ShiftJisBack
pub mod EucJpBack
pub mod Iso2022JpBack
pub mod CodecsBack
pub mod RoundTripLemmas
