-- The pools of the code by number.
pub mod Pools
