-- PROMISES: the statements that docs/PROMISES.md names. Each file opens with what it says.
pub mod Dues
pub mod AtOnce
pub mod WrongLinks
pub mod Kept
pub mod Whose
pub mod Grants
pub mod Rights
pub mod Unlearned
pub mod Apart
pub mod Demand1
pub mod NeverLost
pub mod Tied
pub mod Parts
pub mod Examples
pub mod Ran
