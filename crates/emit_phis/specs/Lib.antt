-- The phis of a visited point, by the runs that the emitter writes.
pub mod Keys
pub mod Along
pub mod Items
