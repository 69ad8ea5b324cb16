-- PROMISES: the statements that docs/PROMISES.md names. Each file opens with what it says.
pub mod Demand1
pub mod Called
pub mod Parts
pub mod Rightly
pub mod Dues
pub mod Dropped
pub mod AnswerReads
pub mod Unread
pub mod Extended
pub mod Forbidden
pub mod ReadBack
pub mod Cases
pub mod Worked
pub mod Limits
pub mod NoBody
pub mod RulesApart
pub mod TwoRules
