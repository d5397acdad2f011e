pub mod Beside
pub mod Decoded
pub mod JournalState
pub mod Seen
pub mod Told
pub mod Whole
