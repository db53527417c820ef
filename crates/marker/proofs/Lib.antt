-- Laws of Algorithm 1.
pub mod Marks
pub mod Spans
pub mod Passes
pub mod Seen
pub mod Sweeps
pub mod Counts
pub mod Covering
pub mod Ranking
pub mod Least
pub mod Orders
pub mod Spreads
pub mod Leads
