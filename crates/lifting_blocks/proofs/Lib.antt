-- What the list says of labels and of the control numbers of merges.
pub mod Labels
pub mod Merges
pub mod Cleared
pub mod Demand2
