pub mod Utf8
pub mod Utf16
pub mod Utf16State
