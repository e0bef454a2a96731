pub mod OrderLemmas
pub mod WordSearchLemmas
pub mod TableLemmas
pub mod LabelLemmas
pub mod CodecPropertyLemmas
