-- How many bytes a printed list has.
pub mod Room
