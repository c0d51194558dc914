pub mod Laws
pub mod Ranges
pub mod Formats
