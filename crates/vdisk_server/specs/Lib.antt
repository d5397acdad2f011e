pub mod Answering
pub mod InLane
pub mod OnStore
pub mod Pieces
pub mod Putting
pub mod Hearing
pub mod Rules
pub mod Standing
