pub mod Calls
pub mod Conversing
pub mod Following
pub mod Hearing
pub mod LinkState
pub mod Putting
pub mod Taking
