-- What contracts of inner functions cite.
pub mod Examinations
pub mod Presences
pub mod Packed
