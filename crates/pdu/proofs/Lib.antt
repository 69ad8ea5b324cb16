-- promises has what docs/PROMISES.md names; all else are laws behind them and behind the contracts.
pub mod promises
pub mod Find
pub mod Reading
pub mod Stores
pub mod Parts
pub mod Formed
pub mod Sound
pub mod Stands
pub mod Items
pub mod Kept
