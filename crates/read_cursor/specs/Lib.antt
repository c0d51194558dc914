-- What is read at a place of the text, and the laws by which readers go from one step to the next.
pub mod Laws
pub mod Read
pub mod Answers
pub mod Begins
pub mod Chains
