pub mod Moved
pub mod Faults
pub mod OnePage
pub mod Identity
pub mod Following
pub mod Reach
