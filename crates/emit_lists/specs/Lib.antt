-- The lists that an instruction is made of, by the lines that they stand in.
pub mod Laws
pub mod OpcodeLaws
pub mod Edges
pub mod Named
pub mod Phis
