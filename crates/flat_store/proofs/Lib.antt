pub mod Outside
pub mod ZeroSizes
pub mod Tries
