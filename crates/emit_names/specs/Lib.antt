-- The names that get new ids, and their words in the work slice.
pub mod Ids
pub mod Names
pub mod Numbered
pub mod Runs
pub mod Standing
