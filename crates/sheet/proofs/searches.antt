-- LAWS of lookups: from the front, by halves, by address.
pub mod FrontSearch
pub mod SearchLoops
pub mod Halves
pub mod Objects
pub mod Regions
pub mod Loops
pub mod RankBound
