-- What was judged of ctrl lines.
pub mod Judged
