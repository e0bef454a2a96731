pub mod DoubleByteLemmas
pub mod Laws
pub mod PlaceNumbers
pub mod Places
pub mod MultiBytePieces
pub mod MultiByteReplaced
pub mod MultiByteEnough
