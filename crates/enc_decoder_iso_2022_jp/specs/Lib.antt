pub mod Iso2022Jp
pub mod Iso2022JpState
pub mod Iso2022JpLaws
pub mod Iso2022JpReplaced
