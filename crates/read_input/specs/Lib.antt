-- When it is known what is printed for an input, and counts of its bytes.
pub mod Counts
pub mod Known
