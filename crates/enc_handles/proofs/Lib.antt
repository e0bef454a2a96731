mod HandleLemmas
pub mod LengthLemmas
