-- PROMISES: the statements that docs/PROMISES.md names. Each file opens with what it says.
pub mod Tables
pub mod Standards
pub mod Agains
pub mod Understood
pub mod Backs
pub mod Filled
pub mod Examples
pub mod Dues
pub mod Answers
