-- Refusal 4, judged by the words of the function slice.
pub mod Largest
pub mod Test
pub mod Hold
