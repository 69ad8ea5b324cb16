-- PROMISES: the statements that docs/PROMISES.md names. Each file opens with what it says.
pub mod Keeping
pub mod Zeroed
pub mod Restores
pub mod Agreeing
pub mod Lists
pub mod OwnVersion
pub mod Dues
pub mod Untouched
pub mod Sequences
pub mod Removes
pub mod RestoredIsSaved
pub mod Examples
