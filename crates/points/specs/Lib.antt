pub mod Nine
pub mod Refusal
pub mod Code
pub mod Point
pub mod Due
