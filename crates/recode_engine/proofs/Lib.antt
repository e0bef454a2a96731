pub mod SourceLemmas
pub mod RunLemmas
pub mod FaultRunLemmas
pub mod RunOutcomeLemmas
