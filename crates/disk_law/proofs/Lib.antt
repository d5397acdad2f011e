pub mod Counted
pub mod OnceInOrder
pub mod Ranges
pub mod Repeated
pub mod Sound
