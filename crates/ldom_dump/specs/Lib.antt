pub mod Decoded
pub mod DumpReport
pub mod Fields
pub mod Going
pub mod MessageText
pub mod PacketText
pub mod Reading
pub mod Whole
