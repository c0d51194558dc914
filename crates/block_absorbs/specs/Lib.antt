-- Where each visited point stands, and whether it absorbs the next one.
pub mod Absorbs
