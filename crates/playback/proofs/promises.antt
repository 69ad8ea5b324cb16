-- PROMISES: the statements that docs/PROMISES.md names. Each file opens with what it says.
pub mod Judging
pub mod PlayRuns
pub mod WrittenBack
pub mod PlayKeeps
pub mod PlayUnlearned
pub mod AsBefore
pub mod PlayAccounts
pub mod Example
