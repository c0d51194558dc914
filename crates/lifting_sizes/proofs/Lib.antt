-- No list has more words than the bound, whatever the text.
pub mod BlockWeights
pub mod Flow
pub mod Bound
