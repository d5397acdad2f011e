pub mod Running
pub mod Isolating
pub mod Settling
pub mod Resting
pub mod Telling
pub mod Arriving
pub mod Counting
pub mod Parts
pub mod LineEntries
pub mod ScriptEntries
pub mod HonestPorts
pub mod ForgedPorts
pub mod ByLines
pub mod LeftOver
pub mod OwnLines
pub mod LoopKinds
pub mod Loops
pub mod Looping
pub mod QuietLines
pub mod DiskParts
pub use Rattle.world_laws.proofs as world_laws
pub use Rattle.switch_laws.proofs as switch_laws
pub use Rattle.port_laws.proofs as port_laws
pub use Rattle.lane_laws.proofs as lane_laws
pub use Rattle.lane_models.proofs as lane_models
