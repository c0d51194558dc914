-- Refusal 7's tests as loops, and what they stand on.
pub mod Loops
pub mod Meets
