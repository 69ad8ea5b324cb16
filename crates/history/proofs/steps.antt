-- LAWS of the state after one event more.
pub mod Invariant
pub mod Requests
pub mod CountNow
pub mod Writes
pub mod MemorySteps
pub mod KeySteps
pub mod PropertySteps
pub mod OtherSteps
pub mod GroupSteps
pub mod Steps
pub mod Restores
pub mod RestoreSteps
