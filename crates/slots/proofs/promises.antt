-- PROMISES: the statements that docs/PROMISES.md names. Each file opens with what it says.
pub mod Backs
pub mod Lives
pub mod Numbered
pub mod Firsts
pub mod Hosts
pub mod Pieced
pub mod Crcs
pub mod Examples
