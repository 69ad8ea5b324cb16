-- PROMISES: the statements that docs/PROMISES.md names. Each file opens with what it says.
pub mod Codes
pub mod Founds
pub mod Outcomes
pub mod Refusals
pub mod Only
pub mod Filled
pub mod Back
pub mod Again
pub mod Vectors
pub mod Readings
pub mod Writing
pub mod Allowed
pub mod Tabled
