-- promises has what docs/PROMISES.md names; all else are laws behind them.
pub mod promises
pub mod Follows
