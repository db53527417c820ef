-- All definitions of the crate help: no rule of document 01 speaks of sets of pairs.
pub mod inner
