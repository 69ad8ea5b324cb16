-- PROMISES: the statements that docs/PROMISES.md names. Each file opens with what it says.
pub mod Plains
pub mod Nine
pub mod RulesKnown
pub mod Values
pub mod Examples
pub mod TwoMemories
pub mod Touching
pub mod Positions
pub mod Keys
pub mod Ranks
pub mod Runs
pub mod Agrees
pub mod Verdicts
pub mod Converting
pub mod Stores
pub mod Counts
