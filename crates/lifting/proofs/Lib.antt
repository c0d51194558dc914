pub mod Digits
pub mod Codec
pub mod Whole
pub mod Grammar
