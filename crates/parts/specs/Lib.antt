pub mod Records
pub mod Again
pub mod With
