-- How much of an input decides.
pub mod Cut
