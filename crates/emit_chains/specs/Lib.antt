-- Edges of a chain by the words that stand for them.
pub mod Edge
