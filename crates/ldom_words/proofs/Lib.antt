mod Accepting
mod Meeting
pub mod Deciding
