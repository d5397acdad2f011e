pub mod Telling
pub mod Adding
pub mod Leaving
pub mod PortLeaving
pub mod PortAnswering
pub mod PortLifting
pub mod Answering
pub mod LaneStepping
pub mod Lifting
pub mod Opened
pub mod Waiting
pub use Rattle.world_parts.proofs as world_parts
pub use Rattle.switched_ports.proofs as switched_ports
