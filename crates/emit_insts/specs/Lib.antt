-- Instructions by the runs that the emitter writes, and what emitting asks.
pub mod Parts
pub mod Ready
pub mod OneProof
pub mod Emitting
pub mod Fits
