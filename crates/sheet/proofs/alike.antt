-- LAWS of two sheets that agree, or are the same but at some positions.
pub mod Sames
pub mod SameLookups
pub mod Buts
pub mod Sparing
pub mod EditionApart
