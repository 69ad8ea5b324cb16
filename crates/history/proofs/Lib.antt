-- promises has what docs/PROMISES.md names, trials what is held against it; all else are laws behind them.
pub mod promises
pub mod trials
pub mod places
pub mod spans
pub mod heard
pub mod stored
pub mod steps
pub mod apart
