pub mod OneByte
pub mod Replacement
