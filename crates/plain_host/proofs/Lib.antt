-- promises has what docs/PROMISES.md names.
pub mod promises
