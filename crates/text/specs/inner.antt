-- What only proofs and the contracts of inner functions need: no rule speaks of it.
pub mod Digits
pub mod Walk
pub mod Puts
