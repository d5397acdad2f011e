pub mod Agreeing
pub mod Counting
pub mod Keeping
pub mod Slots
pub mod Using
pub mod Valued
