pub mod EndsUp
pub mod NotedSteps
pub mod Reaching
