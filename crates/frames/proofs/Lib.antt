-- All are promises, named in docs/PROMISES.md.
pub mod promises
