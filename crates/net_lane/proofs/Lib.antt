pub mod Reaching
pub mod NotedSteps
pub mod Rooms
