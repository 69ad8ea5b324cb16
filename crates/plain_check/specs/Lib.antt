pub mod Kind
pub mod Refused
pub mod Says
pub mod Tests
