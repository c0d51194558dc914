-- The edges into each point, as chains in the work slice.
pub mod Ends
pub mod Links
pub mod Values
pub mod Aimed
pub mod Pairs
