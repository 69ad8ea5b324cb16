pub mod Events
pub mod Before
pub mod Due
pub mod Apart
