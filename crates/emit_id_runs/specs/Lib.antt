-- The ids of one visited point.
pub mod Giving
