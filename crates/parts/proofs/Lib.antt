pub mod Filled
pub mod Bits
pub mod Numbering
pub mod Runs
pub mod Back
pub mod Changed
pub mod Framed
pub mod Quoted
