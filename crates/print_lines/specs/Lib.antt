-- The lines of kept blocks: what they are, one visited point at a time, and how many bytes they have at most.
pub mod Lines
pub mod Positions
pub mod Room
