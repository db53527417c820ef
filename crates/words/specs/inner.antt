-- What contracts of inner functions cite.
pub mod Words
pub mod Taken
