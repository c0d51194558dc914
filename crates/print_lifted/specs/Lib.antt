-- What the programs print for an input.
pub mod Input
pub mod Room
