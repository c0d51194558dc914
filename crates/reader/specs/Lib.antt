-- The reader's answer, and what the scratch slices hold at the end.
pub mod Parse
pub mod Same
