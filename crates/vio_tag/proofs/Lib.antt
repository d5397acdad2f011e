pub mod Addresses
pub mod AttributeBytes
pub mod Canonical
pub mod Deciding
pub mod NoFault
pub mod Reading
pub mod Same
pub mod Widths
