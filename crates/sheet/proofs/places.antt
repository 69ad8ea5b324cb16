-- LAWS of where entries, bodies and their fields stand.
pub mod Rising
pub mod BodyPlaces
pub mod Standing
pub mod Fields
pub mod Levels
pub mod Parts
pub mod RegionBodies
pub mod Longer
