pub mod TurnsMade
pub mod SettleParts
pub mod OneEntry
pub use Rattle.recorded_lanes.specs.Steps
pub use Rattle.recorded_lanes.specs.world_parts as world_parts
