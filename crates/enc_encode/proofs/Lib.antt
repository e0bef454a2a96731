pub mod RepertoireLaws
pub mod PlainRepertoires
pub mod Iso2022JpLemmas
pub mod Iso2022JpEnough
mod KatakanaLemmas
mod UnitByteLemmas
pub mod PrivateUseLemmas
pub mod EncoderLaws
