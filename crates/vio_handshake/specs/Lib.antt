pub mod Acceptance
pub mod Attributes
pub mod Messages
pub mod Offers
pub mod Pairing
pub mod Rules
pub mod State
