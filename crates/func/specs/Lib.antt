-- The function slice: its pools, what a text stores there, and the function that stands there. What these keep is proved in proofs/.
pub mod Layout
pub mod Store
pub mod Adds
pub mod Lines
pub mod Keep
pub mod Decode
pub mod Kinds
pub mod Rows
pub mod Gains
pub mod Whole
pub mod Back
pub mod Tables
pub mod Search
pub mod Stored
