-- PROMISES: the statements that docs/PROMISES.md names. Each file opens with what it says.
pub mod Dues
pub mod Stays
pub mod RunsApart
pub mod Renewal
pub mod Append
