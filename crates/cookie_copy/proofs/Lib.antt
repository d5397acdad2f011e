pub mod Walking
pub mod Addresses
pub mod Places
pub mod Steps
pub mod Loops
pub mod OwnPages
pub mod Granting
pub mod InTurn
