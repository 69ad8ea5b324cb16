pub mod Arms
pub mod Ordered
pub mod Sessioned
pub mod Stored
pub mod Requesting
pub mod promises
