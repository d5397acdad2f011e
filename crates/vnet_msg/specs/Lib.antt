pub mod Descriptor
pub mod Frames
