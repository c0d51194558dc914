-- What the answers of the readers of fields say was found.
pub mod Answers
pub mod Joins
