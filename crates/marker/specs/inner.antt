-- What contracts of inner functions cite.
pub mod Parts
pub mod Spans
pub mod Seen
pub mod Openings
pub mod Spreads
pub mod Counts
