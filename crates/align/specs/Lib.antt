-- The definitions that the contracts of the crate cite: read those of `sets` first, then Reads and Steps.
pub mod Reads
pub mod Steps
