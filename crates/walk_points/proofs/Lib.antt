pub mod Fill
pub mod Laws
pub mod Roots
