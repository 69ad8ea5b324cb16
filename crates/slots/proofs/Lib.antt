-- promises has what docs/PROMISES.md names; all else are laws behind them and behind the contracts.
pub mod promises
pub mod Returns
pub mod Units
pub mod Cuts
pub mod Bytewise
