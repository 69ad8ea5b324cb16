-- PROMISES: the statements that docs/PROMISES.md names. Each file opens with what it says.
pub mod Choice
pub mod Unique
pub mod Back
pub mod Dues
pub mod Examples
