-- The list in the output slice, and the answer of a function in its tables.
pub mod Emit
pub mod Listed
pub mod Sure
