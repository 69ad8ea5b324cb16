-- promises has what docs/PROMISES.md names, trials what is held against it; all else are laws behind them and behind the contracts.
-- A folder of one function's name holds the proof of that function.
pub mod promises
pub mod trials
pub mod due
pub mod leaves
pub mod apart
pub mod calls
pub mod unread
