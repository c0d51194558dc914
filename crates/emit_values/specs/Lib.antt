-- Texts all of whose values have ids.
pub mod Given
