pub mod Ports
pub mod World
pub mod PortCounts
pub mod ToyKind
