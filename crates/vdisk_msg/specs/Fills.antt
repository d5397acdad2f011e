-- The word that a write repeats, and requests that carry one.
use Rattle.std.specs.Prelude.{◌≡◌, ◌-◌, ◌≤◌, length, drop, replicate, ⊤}
use Rattle.vdisk_msg.specs.declared.request.Fill.{Fill}
use Rattle.vdisk_msg.specs.declared.request.Request.{Request}
use Rattle.vdisk_msg.specs.declared.request.Request.TheVariants.{Read, Write, Flush}

-- 1 to 1,024 bytes, and zeros after them
pub record IsFill (fill : Fill) : Type 0 where
  pub some : 1 ≤ fill.len
  pub most : fill.len ≤ 1024
  pub room : length fill.bytes ≡ 1024
  pub zeros : drop fill.len fill.bytes ≡ replicate (1024 - fill.len) 0

-- a write has a word
abbrev pub IsRequest : Request → Type 0
IsRequest (Read block count) = ⊤
IsRequest (Write block count fill) = IsFill fill
IsRequest Flush = ⊤
