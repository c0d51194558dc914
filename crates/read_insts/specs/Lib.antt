-- The heads of the forms that hold an INST, and the kind that K has in the function slice.
pub mod Heads
pub mod Kinds
