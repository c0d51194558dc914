-- The ids of single names.
pub mod Later
