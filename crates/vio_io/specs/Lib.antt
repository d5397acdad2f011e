pub mod Causes
pub mod Ends
pub mod FaultPlan
pub mod Given
pub mod Stores
pub mod Lists
