-- LAWS: what two sheets that are alike have in common.
pub mod Unseen
pub mod Judging
pub mod StepBut
pub mod CarryReads
pub mod PastHead
pub mod Renewing
