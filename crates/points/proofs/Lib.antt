-- promises has what docs/PROMISES.md names; all else are laws behind them and behind the contracts.
pub mod promises
pub mod Floats
pub mod Laws
pub mod Casts
pub mod Search
pub mod Best
pub mod Signed
pub mod Writes
