-- The laws of the lines' formats.
pub mod Formats
