pub mod Limits
pub mod Addresses
pub mod Pieces
pub mod Fills
pub mod Words
pub mod Texts
pub use Rattle.vdisk_msg.specs as vdisk_msg
