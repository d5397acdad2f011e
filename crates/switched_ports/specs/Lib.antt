pub mod Shapes
pub mod States
pub mod Tied
pub mod Events
pub mod Given
pub mod HubSteps
pub use Rattle.net_lane.specs as net_lane
pub use Rattle.vnet_switch.specs as vnet_switch
