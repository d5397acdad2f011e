pub mod Meanings
pub use Rattle.domain_laws.proofs as domain_laws
pub use Rattle.domain_laws.proofs.world_laws as world_laws
pub use Rattle.domain_laws.proofs.port_laws as port_laws
pub use Rattle.domain_laws.proofs.lane_laws as lane_laws
pub use Rattle.domain_laws.proofs.lane_models as lane_models
pub use Rattle.domain_laws.proofs.switch_laws as switch_laws
