pub mod Slots
pub mod Reaching
