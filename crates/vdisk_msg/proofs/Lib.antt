pub mod Spelling
pub mod Repeated
pub mod Written
