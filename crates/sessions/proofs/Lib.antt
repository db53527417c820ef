-- The theorem of the worked cases, a built record whose promise is not empty, and one of edition 2.
pub mod Theorem
pub mod Instance
pub mod Second
