-- The part of the text between two brackets.
pub mod Form
