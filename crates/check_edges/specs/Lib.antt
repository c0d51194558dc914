-- The edges of a ctrl line.
pub mod Edges
