pub mod Files
pub mod HostDiskState
pub mod Hosts
pub mod ListHostState
pub mod MemStoreState
pub mod ZeroStoreState
