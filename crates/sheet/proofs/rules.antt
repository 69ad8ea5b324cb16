-- LAWS of the rules S1 to S9: rows, propositions, editions, the walk.
pub mod First
pub mod Faults
pub mod ByKind
pub mod Editions
pub mod Demands
pub mod Entries
pub mod Bodies
pub mod Rules
pub mod Good
pub mod Telling
pub mod PlainRows
