-- LAWS of where locations stand.
pub mod Standing
