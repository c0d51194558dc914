-- The entry's answer, how long an output slice is wanted, and demand 3 about the output slice.
pub mod Entry
pub mod Wanted
pub mod Demand3
