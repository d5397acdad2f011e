pub mod Coming
pub mod Following
pub mod FollowingPuts
pub mod Hearing
pub mod Owing
pub mod Parts
pub mod Saying
pub mod Spelled
