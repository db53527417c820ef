-- What the program prints: read Lines first, then Transitions, Printed and Portions.
pub mod Lines
pub mod Transitions
pub mod Printed
pub mod Portions
