pub mod Flat
pub mod Back
pub mod FlatFrame
pub mod Points
pub mod FrameBack
