-- The line that is read before a text, and how much of an input decides.
pub mod Cut
pub mod Opening
