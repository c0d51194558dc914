-- What is printed for an answer of the reader.
pub mod Line
