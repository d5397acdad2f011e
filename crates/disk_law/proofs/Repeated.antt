-- A word that is repeated, in parts.
pub use Rattle.vdisk_msg.proofs.Repeated.{length-repeated, repeated-append, repeated_same, drop-repeated, take-repeated, repeated_front, repeated_part, repeated_twice}
