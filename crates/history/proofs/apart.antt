-- LAWS of two runs side by side.
pub mod Near
pub mod Besides
