-- The laws that several proofs cite.
pub mod Numbers
pub mod Answers
pub mod Handed
