-- promises has what docs/PROMISES.md names; all else are laws behind them and behind the contracts.
pub mod promises
