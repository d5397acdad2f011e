pub mod WorldEvents
pub mod WorldKinds
pub mod Parts
pub mod Declared
pub mod Lines
pub mod Script
pub mod Endings
pub use Rattle.domain_laws.specs as domain_laws
pub use Rattle.domain_laws.specs.world_laws as world_laws
pub use Rattle.domain_laws.specs.switch_laws as switch_laws
pub use Rattle.domain_laws.specs.port_laws as port_laws
pub use Rattle.domain_laws.specs.lane_models as lane_models
pub use Rattle.domain_laws.specs.lane_laws as lane_laws
