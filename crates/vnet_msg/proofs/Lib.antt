pub mod Spelling
pub mod FrameSlots
