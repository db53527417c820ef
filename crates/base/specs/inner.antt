-- What only proofs and the contracts of inner functions need.
pub mod Fits
