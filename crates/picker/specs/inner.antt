-- What only the private functions need.
pub mod Below
