pub mod CachedState
pub mod Kept
pub mod Slots
