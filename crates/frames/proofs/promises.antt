-- PROMISES: the statements that docs/PROMISES.md names. Each file opens with what it says.
pub mod SameApdu
pub mod Examples
pub mod Heard
pub mod Joined
pub mod Modes
