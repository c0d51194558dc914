-- What the walk promises, and the laws that its proofs cite.
pub mod Numbers
pub mod Below
pub mod Parents
pub mod Walk
pub mod Words
pub mod Example
