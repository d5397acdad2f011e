pub mod Standing
pub mod Calls
pub mod Hearing
pub mod Putting
pub mod OnLane
