-- PROMISES: the statements that docs/PROMISES.md names. Each file opens with what it says.
pub mod Demands
pub mod Whose
pub mod Contracts
pub mod Lookups
pub mod Mixed
