-- The tests of the numbers of lines.
pub mod Test
