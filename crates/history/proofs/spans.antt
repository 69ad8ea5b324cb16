-- LAWS of tests, of spans and of bytes.
pub mod Bools
pub mod Spans
pub mod Counts
pub mod RequestFields
