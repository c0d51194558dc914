-- Use counts in the work slice.
pub mod Uses
