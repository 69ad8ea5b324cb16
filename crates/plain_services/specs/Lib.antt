pub mod Refusal
pub mod Outcome
pub mod Found
pub mod Steps
pub mod Memory
pub mod Described
