-- The request that a journal keeps without the zeros after a word.
use Rattle.std.specs.Prelude.{ℕ, ◌-◌, ◌≤◌, List, ◌++◌, length, replicate, ⊤}
use Rattle.vdisk_msg.specs.declared.request.Fill.{Fill}
use Rattle.vdisk_msg.specs.declared.request.Request.{Request}
use Rattle.vdisk_msg.specs.declared.request.Request.TheVariants.{Read, Write, Flush}
use Rattle.kept_requests.specs.declared.kept_request.Kept.{Kept}
use Rattle.kept_requests.specs.declared.kept_request.Kept.TheVariants as kept

-- a word by its front, with zeros after it
abbrev pub fill_of : ℕ → List ℕ → Fill
fill_of len front = record { len = len; bytes = front ++ replicate (1024 - length front) 0 }

-- the request that is kept
abbrev pub request_of : Kept → Request
request_of (kept.Read block count) = Read block count
request_of (kept.Write block count len front) = Write block count (fill_of len front.items)
request_of kept.Flush = Flush

-- the front of a word is within it
abbrev pub IsWithin : Kept → Type 0
IsWithin (kept.Read block count) = ⊤
IsWithin (kept.Write block count len front) = length front.items ≤ 1024
IsWithin kept.Flush = ⊤

-- the word of a write has 16 bytes at most
abbrev pub HasFewBytes : Request → Type 0
HasFewBytes (Write block count fill) = fill.len ≤ 16
HasFewBytes other = ⊤
