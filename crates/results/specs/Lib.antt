-- What a caller of the library is told by an answer.
pub mod Told
