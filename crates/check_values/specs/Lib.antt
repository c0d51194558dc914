-- The test of a value.
pub mod Test
