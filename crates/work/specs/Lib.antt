-- The work slice: its tables, and what a call leaves alone.
pub mod Layout
pub mod Aside
