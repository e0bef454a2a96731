pub mod Variant
pub mod Codecs
pub mod Properties
pub mod CodecLaws
