-- The search for a region that lies around itself.
pub mod Stamps
