-- The rules of refusal 4.
pub mod Test
