pub mod EnginesAgree
