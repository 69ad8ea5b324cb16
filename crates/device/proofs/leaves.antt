-- LAWS: what stores, the button and the sessions leave.
pub mod Accepted
pub mod Octet
pub mod Stores
pub mod Bits
pub mod Jumps
pub mod Flags
pub mod Connections
pub mod Agreeing
pub mod Keeping
pub mod Stays
pub mod Backs
pub mod ReadBackProperties
pub mod ReadBackMemory
