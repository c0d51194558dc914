-- Which command a word names, and which one a case tries.
pub mod Named
pub mod Opened
