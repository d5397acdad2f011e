pub mod Domain
pub mod Along
pub mod Frames
pub mod Settling
pub mod Counts
pub mod Lines
pub mod Forged
pub mod Running
pub mod Isolation
pub mod RoundMade
pub mod TicksMade
pub mod NamesMade
pub mod Going
pub mod PlainLines
pub mod Quiet
pub use Rattle.world_laws.specs as world_laws
pub use Rattle.switch_laws.specs as switch_laws
pub use Rattle.port_laws.specs as port_laws
pub use Rattle.lane_models.specs as lane_models
pub use Rattle.lane_laws.specs as lane_laws
