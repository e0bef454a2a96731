pub mod DoubleByteIndexes
pub mod Grid
pub mod Index
pub mod Letters
pub mod Runs
pub mod Search
pub mod SingleByteTables
