-- The tests of an INST.
pub mod Test
