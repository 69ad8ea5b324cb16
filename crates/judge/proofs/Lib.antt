-- This crate's promises are the contracts of `judge::refused_unread` and `judge::found`; its theorems are LAWS behind them and behind the device's.
-- Worked examples: Examples, Heads.
-- What is decided, case by case, which the device cites: SheetCases, GroupCases, DescriptorCases, PropertyCases, MemoryCases, KeyCases.
-- From what the parts of a function ensure to what it ensures: all other modules. A folder holds the proof of the function whose name it has.
pub mod SheetCases
pub mod GroupCases
pub mod DescriptorCases
pub mod PropertyCases
pub mod MemoryCases
pub mod KeyCases
pub mod Values
pub mod Grouped
pub mod Fields
pub mod Memories
pub mod Heads
pub mod Judgement
pub mod Examples
