pub mod Ethernet
pub mod Layout
pub mod Place
pub mod Powers
pub mod Range
