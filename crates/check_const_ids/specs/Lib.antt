-- The test of const ids.
pub mod Test
