-- The condition of a whole build.
pub mod Builds
