-- What contracts of inner functions cite.
pub mod Lowest
pub mod Skipped
pub mod Tracked
