-- what a reader reads, in this order
pub mod Entry
pub mod Trace
pub mod Rules
pub mod Plain
pub mod Written
pub mod Outcome
pub mod Playing
pub mod Marking
-- what functions below the two public ones are told and tell
pub mod Refusal
pub mod Kinds
pub mod Walk
pub mod Event
