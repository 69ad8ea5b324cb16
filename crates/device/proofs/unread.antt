-- LAWS of what a request is not asked for.
pub mod Group
pub mod TopBits
