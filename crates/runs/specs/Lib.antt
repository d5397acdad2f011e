pub mod Lawful
pub mod Run
