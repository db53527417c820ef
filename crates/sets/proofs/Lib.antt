-- Laws of sets.
pub mod Sets
