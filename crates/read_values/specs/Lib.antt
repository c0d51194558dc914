-- A value, by the part between its brackets.
pub mod Answers
pub mod Alike
pub mod Formed
pub mod Part
