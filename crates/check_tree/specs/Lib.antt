-- Refusal 5, judged by the words of the function slice.
pub mod Same
