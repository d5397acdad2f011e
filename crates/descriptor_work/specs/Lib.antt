pub mod Calling
pub mod Fields
pub mod Pieces
pub mod Units
