-- Laws that the crates above cite: of tests (Truths), choices by them (Walks), tests for all numbers below one (Everys) and what code has tested (Tests),
-- of numbers (Numbers), of lists of bytes (Octet) and of runs of bytes (Splices); docs/READING.md names those that test a definition.
-- Stores and Moves are behind the contracts.
-- Kit hands on the names of the kit's library, so that a proof of any crate has them by one line.
pub mod Kit
pub mod Truths
pub mod Walks
pub mod Everys
pub mod Tests
pub mod Numbers
pub mod Splices
pub mod Octet
pub mod Stores
pub mod Moves
