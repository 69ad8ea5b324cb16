-- LAWS of a sheet after a store.
pub mod Stored
pub mod Means
pub mod MemoryRun
pub mod KeyRun
pub mod PropertyRun
pub mod RestoreRun
