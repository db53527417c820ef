-- The definitions that the contracts of the crate cite: read those of `operations` first, then Charts, Runs, Compared,
-- Places, Faults, Lookup. Conflicts and Faultless are what theorems compare the faults with, Possible is what builds
-- are compared on; `inner` helps inner functions.
pub mod Heads
pub mod Charts
pub mod Compared
pub mod Places
pub mod Runs
pub mod Faults
pub mod Conflicts
pub mod Faultless
pub mod Lookup
pub mod Possible
pub mod inner
