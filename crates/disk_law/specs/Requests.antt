-- What a guest may ask of a disk, and the bytes that a request names.
pub use Rattle.vdisk_msg.specs.Requests.{AreSound, Defect, BadCount, BadRange, after_request, blocks_defect, defect, given_count, operation_of, written}
unfoldable pub use Rattle.vdisk_msg.specs.Requests.{repeated}
