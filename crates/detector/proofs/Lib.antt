-- Laws of Algorithm 2.
pub mod Turns
pub mod Measure
pub mod Invariant
pub mod Processing
pub mod Rows
pub mod Looking
pub mod Exploring
