pub mod Forward
pub mod Kept
pub mod Named
pub mod Offering
pub mod PortSet
pub mod PortView
pub mod Queues
pub mod Shown
