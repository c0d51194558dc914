-- The whole text, and what reading it stores.
pub mod Whole
pub mod Chain
