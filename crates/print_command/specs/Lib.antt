-- What the commands print, how much of it, and how much of an input decides it.
pub mod Printed
pub mod Room
pub mod Decides
