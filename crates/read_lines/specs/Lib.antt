-- What reading the lines of a text stores, all but its ctrl lines.
pub mod Laws
pub mod Rows
pub mod Stores
pub mod Elements
pub mod Lines
pub mod Tails
pub mod Keepers
pub mod Nodes
pub mod Kinds
