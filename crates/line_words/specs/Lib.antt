pub mod HasFault
pub mod IsDeclared
pub mod LaneNames
pub mod LineNames
pub mod LineWords
