pub mod Asking
pub mod NamesLanes
pub mod Sampled
pub use Rattle.script_laws.specs as script_laws
