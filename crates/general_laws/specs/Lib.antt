-- Laws that speak of lists, sums and words, and not of lifting.
pub mod Gather
pub mod Lists
pub mod Members
pub mod Tests
pub mod Fewer
pub mod Part
pub mod Tab
pub mod Every
pub mod Ranges
pub mod Compare
