-- promises has what docs/PROMISES.md names; all else are laws behind them and behind the contracts.
-- A folder of one function's name holds the proof of that function.
pub mod promises
pub mod rules
pub mod places
pub mod searches
pub mod alike
