-- Refusal 5 as a test of the words of the function slice, and marks that tell whether numbers stand twice.
pub mod Once
pub mod Test
pub mod Marks
pub mod Fit
