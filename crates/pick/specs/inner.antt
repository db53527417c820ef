-- What the program has to know of answers, to go on with their numbers.
pub mod Small
