pub mod BlockWord
pub mod Bytes
pub mod Kept
pub mod Packed
