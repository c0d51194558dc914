-- Refusals 3 to 7 and 13, in their order.
pub mod Test
pub mod Same
