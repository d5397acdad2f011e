pub mod PortLaws
pub mod Settling
pub mod PortCounting
pub mod PortFronts
pub mod ToyRuns
