-- PROMISES: the statements that docs/PROMISES.md names. Each file opens with what it says.
pub mod Lives
pub mod Found
pub mod Tells
pub mod Since
pub mod Restored
