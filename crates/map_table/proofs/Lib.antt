pub mod Each
pub mod Getting
pub mod Putting
pub mod Taken
