pub mod Saying
pub mod Placing
pub mod ByBytes
pub mod Walking
pub mod Refusing
