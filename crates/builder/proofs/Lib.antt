-- Laws of builds.
pub mod Passing
pub mod Answering
pub mod Bounds
pub mod Demands
