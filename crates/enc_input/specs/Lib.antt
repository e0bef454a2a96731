pub mod Bytes
pub mod Letters
pub mod Mappings
pub mod Results
pub mod Utf16Text
pub mod Utf8Bytes
