pub mod OneByteLemmas
pub mod ReplacementLemmas
pub mod EnoughLemmas
mod WordLemmas
