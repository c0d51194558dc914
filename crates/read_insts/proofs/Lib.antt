-- The laws of the heads' formats.
pub mod Formats
