pub mod DumpLemmas
pub mod WholeDump
