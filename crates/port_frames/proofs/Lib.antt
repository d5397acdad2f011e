pub mod Held
pub mod Frames
pub mod Ranges
pub mod SlotFinds
