pub mod Cuts
pub mod Messages
pub mod Streams
