-- The words of the work slice where the kept blocks are laid out.
pub mod Words
pub mod Laid
