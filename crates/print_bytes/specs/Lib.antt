-- Bytes that are appended at a place, and what a list looks like as bytes.
pub mod Put
pub mod Prints
pub mod Shown
pub mod Lines
pub mod Taken
