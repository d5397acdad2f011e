pub mod FrameQueue
pub mod Memories
pub mod Fetches
