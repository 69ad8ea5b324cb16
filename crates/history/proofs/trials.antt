-- TRIALS: wrong devices, which no promise speaks of, and that the promises rule them out.
pub mod Runs
-- of demand 3:
pub mod Wrong
pub mod Refuted
-- of isolation:
pub mod Leaks
pub mod LeaksRefuted
pub mod ActLeaks
-- of what a tool without the key can learn:
pub mod Tellers
pub mod TellersRefuted
pub mod Namers
