-- Why it is enough to keep the first bytes of a case, and what is printed for a batch.
pub mod Batch
pub mod Kept
