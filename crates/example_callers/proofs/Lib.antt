pub mod WrittenText
pub mod MalformedCount
pub mod SliceLemmas
pub mod PlacedLines
