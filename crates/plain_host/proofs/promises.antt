-- PROMISES: the statements that docs/PROMISES.md names. Each file opens with what it says.
pub mod Contracts
