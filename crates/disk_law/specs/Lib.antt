pub mod Requests
pub mod ListState
pub mod ListStep
pub mod Issued
