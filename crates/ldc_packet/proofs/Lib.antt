pub mod Canonical
pub mod Deciding
pub mod NoFault
pub mod Parts
pub mod Payload
pub mod Reading
pub mod Same
