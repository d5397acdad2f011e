pub mod Decoding
pub mod Fault
pub mod Form
pub mod Parts
pub mod Spelling
