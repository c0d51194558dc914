-- The way out of each visited point, from the function slice and the walk's order.
pub mod Laws
pub mod Labels
pub mod At
pub mod Visited
pub mod Plain
pub mod Kinds
pub mod Edges
