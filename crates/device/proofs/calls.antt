-- LAWS behind the contracts of the code.
pub mod Writing
pub mod SafeEach
pub mod Safe
pub mod Sixteen
pub mod Turns
pub mod Pressing
pub mod Room
pub mod Requests
