-- One thing that happens to a disk on a plain list of requests.
use Rattle.std.specs.Prelude.{◌≡◌, ℕ, ◌+◌, ◌*◌, ◌<◌, ◌⊎◌, List, [], ◌∷◌, ◌++◌, length, Some, None}
use Rattle.vdisk_msg.specs.declared.request.Request.{Request}
use Rattle.disk_law.specs.Requests.{Defect, defect, given_count, operation_of}
use Rattle.disk_law.specs.ListState.{ListState, next_id}

-- what was asked, and what came of it
pub data ListEvent : Type 0 where
  Accepted : (id : ℕ) (request : Request) → ListEvent
  Full : (request : Request) → ListEvent
  Refused : (why : Defect) (request : Request) → ListEvent
  -- a completion, with the bytes that a read gave
  Done : (id operation status : ℕ) (bytes : List ℕ) → ListEvent
  -- nothing is left to do
  Rested : ListEvent

-- the byte of the image at which a block of a disk begins, by the disk's first block
abbrev pub block_place : ℕ → ℕ → ℕ
block_place first block = 512 * (first + block)

-- what a completion carries by its status: at 0 as many bytes as the request reads, at 5 none
abbrev pub Carries : Request → ℕ → List ℕ → Type 0
Carries request status bytes = ((status ≡ 0) × (length bytes ≡ given_count request)) ⊎ ((status ≡ 5) × (bytes ≡ []))

-- the first pending request is completed
pub record Completes (s : ListState) (id operation status : ℕ) (bytes : List ℕ) (t : ListState) : Type 0 where
  pub request : Request
  pub front : s.pending ≡ request ∷ t.pending
  pub id_is : id ≡ s.done
  pub operation_is : operation ≡ operation_of request
  pub carries : Carries request status bytes
  pub after : t ≡ record s { done = s.done + 1; pending = t.pending }

-- one thing that happens to a disk
abbrev pub ListStep : ListState → ListEvent → ListState → Type 0
ListStep s (Accepted id request) t = (defect s.blocks request ≡ None) × (length s.pending < s.ring) × (id ≡ next_id s) × (t ≡ record s { pending = s.pending ++ request ∷ [] })
ListStep s (Full request) t = (defect s.blocks request ≡ None) × (length s.pending ≡ s.ring) × (t ≡ s)
ListStep s (Refused why request) t = (defect s.blocks request ≡ Some why) × (t ≡ s)
ListStep s (Done id operation status bytes) t = Completes s id operation status bytes t
ListStep s Rested t = (s.pending ≡ []) × (t ≡ s)
