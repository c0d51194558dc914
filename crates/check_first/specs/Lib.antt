-- Refusal 9, but for the ids that would be given: the first id, and the ids in the text.
pub mod Lines
pub mod Fit
