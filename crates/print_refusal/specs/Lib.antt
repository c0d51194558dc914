-- The lines of a refusal and of the reader's answer, and how long they are.
pub mod Line
pub mod Room
