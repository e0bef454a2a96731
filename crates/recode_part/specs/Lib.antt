pub mod Numbers
pub mod Parts
pub mod Tasks
pub mod Refusals
pub mod Bound
pub mod PartRun
pub mod Endings
