-- How many bytes the programs print at most.
pub mod Most
