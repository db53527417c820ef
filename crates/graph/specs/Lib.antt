-- The four lent buffers as one value.
pub mod Buffers
pub mod inner
