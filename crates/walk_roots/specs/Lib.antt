-- The tables by region, and the depth-first walk over roots.
pub mod Fill
pub mod Tables
pub mod Visit
