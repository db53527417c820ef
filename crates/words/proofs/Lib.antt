-- Laws of sets of pairs.
pub mod Bits
pub mod Words
pub mod Rests
