pub mod Fields
pub mod Events
pub mod Noted
pub use Rattle.vdisk_server.specs.Answering
pub use Rattle.vdisk_server.specs.declared.answers
pub use Rattle.vdisk_client.specs as vdisk_client
