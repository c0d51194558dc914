-- Refusal 3.
pub mod Both
pub mod Limits
