pub mod Order
pub mod Carrying
pub mod Same
