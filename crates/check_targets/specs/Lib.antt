-- The test of refusal 13, line by line.
pub mod Lines
