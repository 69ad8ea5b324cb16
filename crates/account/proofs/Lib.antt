-- promises has what docs/PROMISES.md names; all else are laws behind them.
pub mod promises
pub mod Lasts
pub mod Levels
pub mod Marking
