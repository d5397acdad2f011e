pub mod Events
pub mod Forwards
pub mod Ports
pub mod PortCounts
pub mod Reached
pub mod Remaining
pub mod Run
