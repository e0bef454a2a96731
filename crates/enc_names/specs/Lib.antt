pub mod Order
pub mod Place
pub mod Table
pub mod Words
pub mod EncodingTable
pub mod LabelIds
pub mod CodecProperties
