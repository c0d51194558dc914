-- The texts and the cases of a batch, and what is held of one.
pub mod Texts
pub mod Held
pub mod Kept
pub mod Cases
