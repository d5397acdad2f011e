pub mod Counts
pub mod KeptState
pub mod PartsState
