pub mod PageLoops
pub mod Zeros
