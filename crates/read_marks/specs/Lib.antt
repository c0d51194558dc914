-- Where a case ends in the bytes of a batch.
pub mod Cut
