-- A bound on the words of every list, and on the points and labels that a walk visits.
pub mod Sums
pub mod Weights
pub mod BlockWeights
pub mod Lines
pub mod Labels
pub mod Parsing
pub mod Bound
