-- Ctrl lines, and what refusals 4 and 6 ask of them.
pub mod Judge
pub mod Tails
pub mod Answers
pub mod Whole
pub mod Marked
pub mod Amid
pub mod Same
