-- PROMISES: the statements that docs/PROMISES.md names. Each file opens with what it says.
pub mod Means
pub mod Returned
pub mod Examples
pub mod NoEvent
pub mod FrameBack
pub mod FrameExamples
pub mod Contracts
