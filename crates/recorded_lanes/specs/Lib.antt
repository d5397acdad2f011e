pub mod CachedImage
pub mod Fitting
pub mod OneLane
pub mod OnePort
pub mod Called
pub mod Resting
pub mod Steps
pub use Rattle.world_parts.specs as world_parts
pub use Rattle.switched_ports.specs as switched_ports
pub use Rattle.ldom_report.specs as ldom_report
pub use Rattle.kept_requests.specs as kept_requests
