pub mod Check
pub mod Descriptor
pub mod Fills
pub mod Requests
pub mod Requested
pub mod Pieces
