-- Laws of what a build leaves: how it ends is in Finishing and Left, that it is right in Right, and which rows have no
-- target in Unused.
pub mod Left
pub mod Finishing
pub mod Right
pub mod Unused
