-- A disk whose requests are a plain list: where its blocks lie in the image, and what is pending.
use Rattle.std.specs.Prelude.{ℕ, ◌+◌, List, [], length, Option}
use Rattle.vio_io.specs.declared.store.Store.{Ghosts}
use Rattle.vdisk_msg.specs.declared.request.Request.{Request}

pub record ListState : Type 0 where
  -- the block of the image at which the disk's blocks begin
  pub first : ℕ
  -- how many blocks of 512 bytes the disk has
  pub blocks : ℕ
  -- how many requests may be pending
  pub ring : ℕ
  -- how many were completed
  pub done : ℕ
  -- those that were accepted and not yet completed, in order
  pub pending : List Request

-- the id of the next request that is accepted
abbrev pub next_id : ListState → ℕ
next_id s = s.done + length s.pending

-- nothing was asked yet
abbrev pub fresh : ℕ → ℕ → ℕ → ListState
fresh first blocks ring = record { first = first; blocks = blocks; ring = ring; done = 0; pending = [] }

-- an image that disks are served from
pub record ImageState : Type 0 where
  -- its bytes, where they are told
  pub told : Option (List ℕ)
  -- how often it failed
  pub faults : ℕ
  -- how often it was asked to read, to write or to flush, and how often to flush and to write
  pub calls : ℕ
  pub flushes : ℕ
  pub writes : ℕ

-- a store, by what contracts see of it
abbrev pub as_image : {D : Type 0} → Ghosts D → D → ImageState
as_image store disk = record {
  told = store.content disk;
  faults = store.faults disk;
  calls = store.calls disk;
  flushes = store.flushes disk;
  writes = store.writes disk;
}

-- one that was just attached: nothing was asked of it
abbrev pub attached : Option (List ℕ) → ImageState
attached told = record { told = told; faults = 0; calls = 0; flushes = 0; writes = 0 }
