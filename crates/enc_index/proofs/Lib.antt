mod Computing
pub mod ByteEntries
pub mod GridEntries
pub mod GridLemmas
pub mod PlaceLemmas
pub mod GridTests
pub mod RangesAscend
pub mod RunSearchLemmas
mod RunLemmas
pub mod SingleByteLemmas
pub mod TableLemmas
pub mod Tables
