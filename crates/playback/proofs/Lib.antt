-- promises has what docs/PROMISES.md names; all else are laws behind them and behind the contracts.
pub mod promises
pub mod Refused
pub mod Walking
pub mod Happening
pub mod Logging
pub mod Running
pub mod PlayedBack
pub mod Marked
