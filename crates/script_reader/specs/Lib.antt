pub mod LinesState
pub mod Parts
pub mod Reader
