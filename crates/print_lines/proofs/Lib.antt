-- No text has more lines than there is room for.
pub mod Room
