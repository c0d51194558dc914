-- The numbers of the refusals, and the limits that they name.
pub mod Numbers
pub mod Limits
