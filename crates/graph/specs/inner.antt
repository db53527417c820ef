-- What contracts of inner functions cite.
pub mod Sized
pub mod Tracks
