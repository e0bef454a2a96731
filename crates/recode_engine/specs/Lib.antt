pub mod Run
pub mod Labels
pub mod Status
pub mod Fault
