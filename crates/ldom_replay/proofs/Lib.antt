mod Beginning
mod BlockCounts
mod Commands
mod Holding
mod ReaderStops
mod Sampled
pub use Rattle.script_laws.proofs as script_laws
