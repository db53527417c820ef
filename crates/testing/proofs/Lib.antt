-- Laws of the numbers that the tests are told.
pub mod Bits
