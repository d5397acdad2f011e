pub mod InOrder
pub mod Putting
pub mod Ranges
