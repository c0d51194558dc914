-- What an emitter appends, and the items of an instruction.
pub mod Put
pub mod Items
pub mod Writes
