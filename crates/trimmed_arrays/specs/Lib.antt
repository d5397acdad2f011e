pub mod Strings
pub mod Trimmed
