pub mod PropertyLemmas
pub mod DivisionLemmas
pub mod MarkByteLemmas
pub mod CodecLaws
