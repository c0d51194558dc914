-- The opcodes that document 01's table fixes.
pub mod Table
