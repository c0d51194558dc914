-- Demand 3 and demand 2's theorems about ids and phi pairs, from what every absorption keeps of the walk to the run of the list.
pub mod Ended
pub mod Shaped
pub mod EndedKept
pub mod AcceptedRuns
pub mod Numbering
pub mod ListIds
pub mod ListPhis
pub mod EveryText
pub mod Demand3
pub mod Controls
pub mod WitnessRuns
