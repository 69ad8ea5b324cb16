-- TRIALS: wrong devices, which no promise speaks of, and that demand 2 rules them out.
pub mod Wrong
pub mod WrongSteps
pub mod Refuted
