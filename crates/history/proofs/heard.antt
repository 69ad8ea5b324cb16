-- LAWS of what a request meets, and of what is heard, found and allowed.
pub mod Meets
pub mod Hearing
pub mod Unheard
pub mod Searches
pub mod Framed
pub mod LevelFor
pub mod Permits
pub mod Moves
