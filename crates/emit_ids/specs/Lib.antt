-- New ids as tables in the work slice.
pub mod Passes
