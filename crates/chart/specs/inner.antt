-- Definitions that help the contracts of inner functions; no rule of the specification speaks of them.
pub mod Faulty
pub mod Ascending
pub mod Index
pub mod Prepared
pub mod Comparisons
pub mod NoneNever
