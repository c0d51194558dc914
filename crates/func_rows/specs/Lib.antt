-- Which word of a row is asked for.
pub mod Columns
