-- Laws of records that pass, demand 3, first half, targets that check and following ignore, and the check as the code
-- comes upon it.
pub mod Passed
pub mod Passes
pub mod Rows
pub mod Bounds
pub mod Demand3
pub mod Ignored
pub mod Shapes
pub mod Targets
pub mod Absent
pub mod Answering
pub mod Instance
pub mod IgnoredInstance
