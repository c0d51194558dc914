-- Refusal 6, judged by the words of the function slice.
pub mod Test
pub mod Numbered
pub mod Same
