-- Laws of what a build does to the buffers.
pub mod Graphs
pub mod Parts
pub mod Keeping
pub mod Tracking
