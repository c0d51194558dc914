-- The whole list, point by point.
pub mod Laws
pub mod Points
pub mod Over
